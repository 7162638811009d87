-- A label is ASCII, and so it is UTF-8.
use Rattle.std.proofs.Common.{◌≡◌, ℕ, ◌<◌, true, List, [], ◌∷◌, arith}
use Rattle.std.specs.List.{All}
use Rattle.std.specs.Str.{IsAscii, IsUtf8}
use Rattle.std.proofs.lemmas.Bool.Decides.{nat_tests}
use Rattle.std.proofs.lemmas.List.Elements.{All-head, All-tail}
use Rattle.std.proofs.lemmas.Str.{IsUtf8-from_ascii}
use Rattle.std.proofs.lemmas.Str.Ascii.{IsAscii-nil, IsAscii-cons}
use Rattle.mme_types.specs.Network.{is_label_octet}

octet_ascii : (c : ℕ) → is_label_octet c ≡ true → c < 128
octet_ascii c e = grind (arith, nat_tests)

octets_ascii : (cs : List ℕ) → All (λ c. is_label_octet c ≡ true) cs → IsAscii cs
octets_ascii [] h = IsAscii-nil
octets_ascii (c ∷ cs) h =
    IsAscii-cons c cs (octet_ascii c (All-head (λ d. is_label_octet d ≡ true) c cs h))
    (octets_ascii cs (All-tail (λ d. is_label_octet d ≡ true) c cs h))

pub label_utf8 : (cs : List ℕ) → All (λ c. is_label_octet c ≡ true) cs → IsUtf8 cs
label_utf8 cs h = IsUtf8-from_ascii cs (octets_ascii cs h)
