-- What a caller who takes act by act has seen.
use Rattle.std.specs.Prelude.{◌≡◌, ◌≢◌, ℕ, Bool, true, false, List, [], ◌∷◌, length, Some, None, Result, Ok, Err, IfOk, IfErr, OnOk, OnErr, if◌then◌else◌}
use Rattle.identity_slots.specs.declared.profile.Profile.{Profile}
use Rattle.identity_slots.specs.declared.profile.Vector.{Vector}
use Rattle.identity_slots.specs.declared.provision.ProvisionFault.{ProvisionFault}
use Rattle.identity_slots.specs.declared.provision.ProvisionFault.TheVariants.{RepeatedImsi, RepeatedAddress, Full, NoMemory}
use Rattle.identity_slots.specs.Provisioned.{add_fault}
use Rattle.mme_answering.specs.declared.out.Out.{Out}
use Rattle.mme_core.specs.declared.event.StepFault.{StepFault}
use Rattle.mme_core.specs.Provisioning.{give_fault, world_added, world_given}
use Rattle.mme_core.specs.World.{World, is_no_memory}
use Rattle.laws_mme.specs.Acts.{Act, Adds, Gives, Happens, acts_replies, acts_run}
use Rattle.laws_mme.specs.EventByEvent.{IsStep}

-- what is answered: to an event, to a profile, and to a vector
pub data ActAnswer : Type 0 where
  ToEvent : Result (List Out) StepFault → ActAnswer
  ToProfile : Result ℕ ProvisionFault → ActAnswer
  ToVector : Result (Unit {0}) ProvisionFault → ActAnswer

-- ---- one act

-- a profile: the MME before it, the answer, and the MME after it, as `Mme::add` ensures them
pub record IsAdding (before : World) (p : Profile) (answer : Result ℕ ProvisionFault) (next : World) : Type 0 where
  pub slot : IfOk answer (λ slot. slot ≡ length before.sight.profiles)
  pub free : OnOk answer (add_fault p before.sight.profiles ≡ None)
  pub after : OnOk answer (next ≡ world_added p before)
  pub refused : IfErr answer (λ fault. fault ≢ NoMemory → add_fault p before.sight.profiles ≡ Some fault)
  pub err : OnErr answer (next ≡ before)

-- and a vector, as `Mme::give` ensures them
pub record IsGiving (before : World) (slot : ℕ) (v : Vector) (answer : Result (Unit {0}) ProvisionFault) (next : World) : Type 0 where
  pub free : OnOk answer (give_fault slot before ≡ None)
  pub after : OnOk answer (next ≡ world_given slot v before)
  pub refused : IfErr answer (λ fault. fault ≢ NoMemory → give_fault slot before ≡ Some fault)
  pub err : OnErr answer (next ≡ before)

abbrev pub IsActStep : World → Act → ActAnswer → World → Type 0
IsActStep before (Happens event) (ToEvent answer) next = IsStep before event answer next
IsActStep before (Adds p) (ToProfile answer) next = IsAdding before p answer next
IsActStep before (Gives slot v) (ToVector answer) next = IsGiving before slot v answer next
IsActStep before act answer next = ⊥

-- act by act, each with its answer, from the first MME to the last
abbrev pub AreActSteps : World → List Act → List ActAnswer → World → Type 0
AreActSteps first [] [] last = last ≡ first
AreActSteps first [] (r ∷ rs) last = ⊥
AreActSteps first (a ∷ acts) [] last = ⊥
AreActSteps first (a ∷ acts) (r ∷ rs) last = (next : World) × IsActStep first a r next × AreActSteps next acts rs last

-- ---- acts that were refused for lack of memory are taken out of a list

abbrev pub is_out_of_memory : ProvisionFault → Bool
is_out_of_memory NoMemory = true
is_out_of_memory RepeatedImsi = false
is_out_of_memory RepeatedAddress = false
is_out_of_memory Full = false

abbrev pub wants_memory : ActAnswer → Bool
wants_memory (ToEvent answer) = is_no_memory answer
wants_memory (ToProfile (Ok slot)) = false
wants_memory (ToProfile (Err fault)) = is_out_of_memory fault
wants_memory (ToVector (Ok done)) = false
wants_memory (ToVector (Err fault)) = is_out_of_memory fault

abbrev pub acts_taken : List Act → List ActAnswer → List Act
acts_taken [] rs = []
acts_taken (a ∷ acts) [] = []
acts_taken (a ∷ acts) (r ∷ rs) = if wants_memory r then acts_taken acts rs else a ∷ acts_taken acts rs

-- what was sent in an answer
abbrev pub sent_in : ActAnswer → Result (List Out) StepFault
sent_in (ToEvent answer) = answer
sent_in (ToProfile answer) = Ok []
sent_in (ToVector answer) = Ok []

abbrev pub sent_in_taken : List ActAnswer → List (Result (List Out) StepFault)
sent_in_taken [] = []
sent_in_taken (r ∷ rs) = if wants_memory r then sent_in_taken rs else sent_in r ∷ sent_in_taken rs

-- the answers, but for those of lack of memory, are the replies of the definition, and the last MME is the one after the acts
abbrev pub StepsAreActs : Type 0
StepsAreActs =
    (first last : World) (acts : List Act) (rs : List ActAnswer) → AreActSteps first acts rs last
    → (sent_in_taken rs ≡ acts_replies first (acts_taken acts rs)) × (last ≡ acts_run first (acts_taken acts rs))
