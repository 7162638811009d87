pub mod Printed
pub mod Shown
pub mod Stopped
pub mod LineLaws
pub mod PrintLaws
pub mod StopLaws
