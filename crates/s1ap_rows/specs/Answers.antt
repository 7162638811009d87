-- What functions returned, as against what reading and writing give.
use Rattle.std.specs.Prelude.{◌≡◌, List, ℕ, Option, Some, None, Result, Ok, Err}
use Rattle.per_streams.specs.declared.fault.PerFault.{PerFault}
use Rattle.per_streams.specs.declared.fault.PerError.{PerError}
use Rattle.per_streams.specs.declared.fault.PerError.TheVariants as errors
use Rattle.s1ap_rows.specs.declared.fault.S1apFault.{S1apFault}
use Rattle.s1ap_rows.specs.declared.fault.S1apFault.TheVariants.{Syntax, NoMemory}
use Rattle.s1ap_rows.specs.declared.fault.EncodeFault.{EncodeFault}
use Rattle.s1ap_rows.specs.declared.fault.EncodeFault.TheVariants.{NotWritable, NoMemory as OutOfMemory}

abbrev pub FailsAs : {Y : Type 0} → S1apFault → Result Y S1apFault → Type 0
FailsAs NoMemory read = Unit {0}
FailsAs f read = read ≡ Err f

abbrev pub Reads : {X Y : Type 0} → Result X S1apFault → Y → Result Y S1apFault → Type 0
Reads (Ok x) after read = read ≡ Ok after
Reads (Err e) after read = FailsAs e read

abbrev pub Answers : {X Y : Type 0} → (X → Y) → Result X S1apFault → Result Y S1apFault → Type 0
Answers view (Ok x) read = read ≡ Ok (view x)
Answers view (Err e) read = FailsAs e read

-- an answer that is never lack of memory
abbrev pub WantsNoMemory : {X : Type 0} → Result X S1apFault → Type 0
WantsNoMemory (Ok x) = Unit {0}
WantsNoMemory (Err NoMemory) = ⊥
WantsNoMemory (Err f) = Unit {0}

abbrev pub fault_of : PerError → S1apFault
fault_of (errors.Fault f) = Syntax f
fault_of errors.NoMemory = NoMemory

-- what an encoder returned
abbrev pub Encodes : {X : Type 0} → (X → List ℕ) → Result X EncodeFault → Option (List ℕ) → Type 0
Encodes view (Ok x) write = write ≡ Some (view x)
Encodes view (Err OutOfMemory) write = Unit {0}
Encodes view (Err NotWritable) write = write ≡ None

abbrev pub AnswersWhole : {X Y : Type 0} → (X → Y) → Result X PerFault → Result Y PerFault → Type 0
AnswersWhole view (Ok x) read = read ≡ Ok (view x)
AnswersWhole view (Err e) read = read ≡ Err e
