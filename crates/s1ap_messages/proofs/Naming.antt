-- What the values of rows answer, the message answers.
use Rattle.std.proofs.Common.{◌≡◌, ℕ, List, Result, Ok, Err, ap, ◌∙◌}
use Rattle.std.specs.Borrow.{Bor}
use Rattle.s1ap_rows.specs.declared.fault.S1apFault.{S1apFault}
use Rattle.s1ap_rows.specs.declared.fault.S1apFault.TheVariants as faults
use Rattle.s1ap_rows.specs.Answers.{Answers, FailsAs}
use Rattle.s1ap_rows.specs.Reading.{◌>>>◌}
use Rattle.s1ap_pdus.specs.declared.pdu.Pdu.{Pdu}
use Rattle.s1ap_pdus.specs.Typed.{Typed, decode_typed}
use Rattle.s1ap_pdus.specs.Pdus.{decoded, lists, named, typed}

-- the values of a message's rows give the message again
abbrev pub NamedAgain : Type 0
NamedAgain = (m : Pdu (List ℕ)) → named (typed m).0 (typed m).1 ≡ m

abbrev named_of : Result Typed S1apFault → Result (Pdu (List ℕ)) S1apFault
named_of r = r >>> λ m. Ok (named m.0 m.1)

failed : (f : S1apFault) (r : Result Typed S1apFault) → FailsAs f r → FailsAs f (named_of r)
failed faults.NoMemory r h = tt
failed (faults.Syntax f) r h = ap named_of h
failed (faults.UnknownProcedure f) r h = ap named_of h
failed (faults.MissingElement f) r h = ap named_of h
failed (faults.RepeatedElement f) r h = ap named_of h
failed (faults.RefusedElement f) r h = ap named_of h

pub answers_named : NamedAgain → (result : Result (Pdu (Bor (List ℕ))) S1apFault) (os : List ℕ)
    → Answers (λ m. typed (lists m)) result (decode_typed os) → Answers lists result (decoded os)
unfolding decoded
answers_named again (Ok m) os h = ap named_of h ∙ ap (λ x. Ok x) (again (lists m))
answers_named again (Err f) os h = failed f (decode_typed os) h
