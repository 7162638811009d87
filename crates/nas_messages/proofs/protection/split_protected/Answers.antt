use Rattle.std.proofs.Common.{◌≡◌, ◌-◌, ◌/◌, ◌%◌, ◌≤◌, Some, length, take, drop, slice_index, refl, sym, ◌∙◌, arith, length-drop}
use Rattle.std.proofs.lemmas.List.{take_all}
use Rattle.nas_messages.specs.Protection.{header_of}
use Rattle.nas_messages.proofs.ProtectionLaws.{parts_form}
use Rattle.nas_messages.proofs.protection.split_protected.Goals as goal

pub returns-clause-form : goal.returns-clause-form
returns-clause-form c =
    let octets = c.args.octets.now in
    let header = c.in_ok-header.header in
    let long : 6 ≤ length octets = omega arith in
    let low : slice_index octets 0 % 16 ≡ 7 = c.if-octets-ne-EMM_DISCRIMINATOR.false in
    let named : header_of (slice_index octets 0 / 16) ≡ Some header = sym c.header_of.ensures ∙ c.in_ok-header.was in
    let rest : take (length octets - 6) (drop 6 octets) ≡ drop 6 octets =
    take_all (length octets - 6) (drop 6 octets) (omega (arith, length-drop 6 octets)) in
    (rw rest (parts_form octets header long low named), refl)
