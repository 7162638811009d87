pub mod BearerLaws
