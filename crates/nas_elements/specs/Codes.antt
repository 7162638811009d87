-- Codes of TS 24.301 by their names, where they stand outside of a message's own row.
use Rattle.std.specs.Prelude.{ℕ}

-- ---- protocol discriminators (TS 24.007 clause 11.2.3.1.1)

abbrev pub emm_discriminator : ℕ
emm_discriminator = 7

abbrev pub esm_discriminator : ℕ
esm_discriminator = 2

-- the first octet of SERVICE REQUEST: security header type 12 with EMM's discriminator (TS 24.301 clause 9.3.1)
abbrev pub service_request_head : ℕ
service_request_head = 0xc7

-- ---- EPS attach types (TS 24.301 clause 9.9.3.11)

abbrev pub combined_attach : ℕ
combined_attach = 2

-- ---- EPS update types (TS 24.301 clause 9.9.3.14)

abbrev pub combined_update : ℕ
combined_update = 1

abbrev pub combined_update_with_attach : ℕ
combined_update_with_attach = 2

-- ---- NAS key set identifiers (TS 24.301 clause 9.9.3.21): those of keys are below this one, which says that there is none

abbrev pub no_key_set : ℕ
no_key_set = 7

-- ---- EPS bearer identities (TS 24.301 clause 9.3.2)

-- of a message that is of no bearer
abbrev pub no_bearer : ℕ
no_bearer = 0

-- of the default bearer: the first that a bearer may have
abbrev pub default_bearer : ℕ
default_bearer = 5

-- ---- PDN types (TS 24.301 clause 9.9.4.10)

abbrev pub pdn_type_ipv6 : ℕ
pdn_type_ipv6 = 2

abbrev pub pdn_type_ipv4v6 : ℕ
pdn_type_ipv4v6 = 3
