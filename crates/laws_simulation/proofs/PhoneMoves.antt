-- A phone's acts, what it makes of what it hears, and its runs.
use Rattle.std.proofs.Common.{ℕ, Bool, true, false, cond, List, [], ◌∷◌, Option, Some, None, refl, arith}
use Rattle.std.specs.Prelude.{is_some}
use Rattle.nas_elements.specs.declared.identity.MobileIdentity.TheVariants as identity
use Rattle.nas_elements.specs.Identities.{first_of}
use Rattle.sim_phone.specs.declared.phone.PhoneAct.TheVariants.{Attach, Info, Foreign, Service, Tau, Detach, Off, Replay, Forge}
use Rattle.sim_phone.specs.Answering.{phone_answer}
use Rattle.sim_phone.specs.Asking.{attach_saying, detach_saying, service_saying, update_saying}
use Rattle.sim_phone.specs.Messages.{foreign_guti}
use Rattle.sim_phone.specs.Protecting.{Spoken, forged, leaving}
use Rattle.sim_phone.specs.View.{Move, PhoneView, acted, card_of, doing, hearing, kept_form, saying_of, unmoved}
use Rattle.laws_simulation.specs.NasSent.{IsFormIf}
use Rattle.laws_simulation.specs.PhoneRanges.{GutiInRange, PhoneInRange}
use Rattle.laws_simulation.specs.Phones.{ActsMoveWell, HearingMovesWell, InputIsOctets, LiesAreForms, MovesWell, PhoneBeginsInRange, PhoneInput, PhonesSendWell, acts, deafens, hears, phone_moved}
use Rattle.laws_simulation.proofs.GivenLaws.{NasLawsGiven}
use Rattle.laws_simulation.proofs.PhoneAnswering.{CardInRange, answer_well}
use Rattle.laws_simulation.proofs.PhoneAsking.{attach_well, detach_well, service_well, update_well}
use Rattle.laws_simulation.proofs.ProtectedForms.{SpokenWell, forged_sent, kept_sent, leaving_well, nas_of_form, nothing_kept}

-- ---- what is kept of what was said

first_sent : (a b : Option (List ℕ)) → IsFormIf a → IsFormIf b → IsFormIf (first_of a b)
first_sent None b h k = k
first_sent (Some os) b h k = h

saying_well : (s : Spoken) (p : PhoneView) → SpokenWell s → PhoneInRange p → MovesWell (saying_of s p)
saying_well s p h k = record {
  sent = h.sent;
  phone = record {
    imsi = k.imsi;
    vectors = k.vectors;
    registration = h.registration;
    sent = first_sent (kept_form s.octets) p.sent (kept_sent s.octets h.sent) k.sent;
  };
}

unmoved_well : (p : PhoneView) → PhoneInRange p → MovesWell (unmoved p)
unmoved_well p h = record { sent = tt; phone = h }

move_either : (b : Bool) (x y : Move) → MovesWell x → MovesWell y → MovesWell (cond b x y)
move_either true x y h k = h
move_either false x y h k = k

doing_well : (s : Spoken) (p : PhoneView) → SpokenWell s → PhoneInRange p → MovesWell (doing s p)
doing_well s p h k = move_either (is_some s.octets) (saying_of s p) (unmoved p) (saying_well s p h k) (unmoved_well p k)

-- ---- acts

foreign_in_range : GutiInRange foreign_guti
foreign_in_range = record { plmn = refl; group = refl; code = omega arith; tmsi = omega arith }

pub acts_move_well : NasLawsGiven → ActsMoveWell
unfolding acted
acts_move_well laws Attach p h =
    doing_well (attach_saying (identity.Imsi p.imsi) false) p (attach_well laws (identity.Imsi p.imsi) false h.imsi) h
acts_move_well laws Info p h =
    doing_well (attach_saying (identity.Imsi p.imsi) true) p (attach_well laws (identity.Imsi p.imsi) true h.imsi) h
acts_move_well laws Foreign p h =
    doing_well (attach_saying (identity.Temporary foreign_guti) false) p
    (attach_well laws (identity.Temporary foreign_guti) false foreign_in_range) h
acts_move_well laws Service p h = doing_well (service_saying p.registration) p (service_well laws p.registration h.registration) h
acts_move_well laws Tau p h = doing_well (update_saying p.registration) p (update_well laws p.registration h.registration) h
acts_move_well laws Detach p h =
    doing_well (detach_saying p.imsi p.registration false) p (detach_well laws p.imsi p.registration false h.imsi h.registration) h
acts_move_well laws Off p h =
    let s = detach_saying p.imsi p.registration true in
    doing_well (leaving s) p (leaving_well s (detach_well laws p.imsi p.registration true h.imsi h.registration)) h
acts_move_well laws Replay p h = record { sent = nas_of_form p.sent h.sent; phone = h }
acts_move_well laws Forge p h = record { sent = nas_of_form (forged p.sent) (forged_sent laws p.sent h.sent); phone = h }

pub lies_are_forms : NasLawsGiven → LiesAreForms
unfolding acted
lies_are_forms laws p h = (h.sent, forged_sent laws p.sent h.sent)

-- ---- what is heard

pub hearing_moves_well : NasLawsGiven → HearingMovesWell
unfolding hearing
hearing_moves_well laws nas p h b =
    let card : CardInRange (card_of p) = record { imsi = h.imsi; vectors = h.vectors } in
    let s = phone_answer (card_of p) p.registration nas in
    move_either p.deaf (unmoved p) (saying_of s p) (unmoved_well p h)
    (saying_well s p (answer_well laws (card_of p) p.registration nas b card h.registration) h)

-- ---- runs

input_moves_well : NasLawsGiven → (i : PhoneInput) (p : PhoneView) → PhoneInRange p → InputIsOctets i → MovesWell (phone_moved i p)
input_moves_well laws (acts act) p h b = acts_move_well laws act p h
input_moves_well laws (hears nas) p h b = hearing_moves_well laws nas p h b
input_moves_well laws deafens p h b =
    record { sent = tt; phone = record { imsi = h.imsi; vectors = h.vectors; registration = h.registration; sent = h.sent } }

pub phones_send_well : NasLawsGiven → PhonesSendWell
phones_send_well laws p [] h b = tt
phones_send_well laws p (i ∷ is) h b =
    let moved = input_moves_well laws i p h b.0 in
    (moved.sent, phones_send_well laws (phone_moved i p).phone is moved.phone b.1)

pub phone_begins : PhoneBeginsInRange
phone_begins imsi vectors i v = record { imsi = i; vectors = v; registration = nothing_kept; sent = tt }
