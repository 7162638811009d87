-- The numbers of faults, and which fault one of the codecs is.
use Rattle.std.specs.Prelude.{ℕ, Result, Ok, Err}
use Rattle.nas_elements.specs.declared.fault.NasFault.{NasFault}
use Rattle.nas_elements.specs.declared.fault.NasFault.TheVariants as nas
use Rattle.s1ap_rows.specs.declared.fault.S1apFault.{S1apFault}
use Rattle.s1ap_rows.specs.declared.fault.S1apFault.TheVariants as s1ap
use Rattle.c_codecs.specs.declared.fault.CodecFault.{CodecFault}
use Rattle.c_codecs.specs.declared.fault.CodecFault.TheVariants.{NoMemory, BadNumber, BadOctets, Syntax, UnknownProcedure, MissingElement, RepeatedElement, RefusedElement, TooShort, Mandatory, UnknownType, OptionalPart, NotProtected}

-- the number of a fault
abbrev pub number_of : CodecFault → ℕ
number_of NoMemory = 4
number_of BadNumber = 13
number_of BadOctets = 14
number_of Syntax = 31
number_of UnknownProcedure = 32
number_of MissingElement = 33
number_of RepeatedElement = 34
number_of RefusedElement = 35
number_of TooShort = 41
number_of Mandatory = 42
number_of UnknownType = 43
number_of OptionalPart = 44
number_of NotProtected = 45

abbrev pub of_s1ap : S1apFault → CodecFault
of_s1ap (s1ap.Syntax fault) = Syntax
of_s1ap (s1ap.UnknownProcedure criticality) = UnknownProcedure
of_s1ap (s1ap.MissingElement id) = MissingElement
of_s1ap (s1ap.RepeatedElement id) = RepeatedElement
of_s1ap (s1ap.RefusedElement id) = RefusedElement
of_s1ap s1ap.NoMemory = NoMemory

abbrev pub of_nas : NasFault → CodecFault
of_nas nas.TooShort = TooShort
of_nas nas.Mandatory = Mandatory
of_nas nas.UnknownType = UnknownType
of_nas nas.OptionalPart = OptionalPart
of_nas nas.NoMemory = NoMemory

-- what follows where nothing is refused
infixl 10 ◌>>=◌
abbrev pub ◌>>=◌ : {A B : Type 0} → Result A CodecFault → (A → Result B CodecFault) → Result B CodecFault
Ok x >>= f = f x
Err fault >>= f = Err fault
