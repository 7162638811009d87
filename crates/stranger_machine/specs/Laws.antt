-- The laws of the table: each stranger goes as its own machine, and the ids rise.
use Rattle.std.proofs.Common.{◌≡◌, ◌≢◌, ℕ, ◌<◌, List, [], ◌∷◌, Bool, true, false, Option, Some, None, refl, sym, ◌∙◌, ap, arith}
use Rattle.std.specs.Prelude.{◌==◌, if◌then◌else◌, cond, option_map}
use Rattle.std.proofs.lemmas.Bool.Decides.{nat_tests}
use Rattle.identity_slots.specs.declared.profile.Profile.{Profile}
use Rattle.sorted_list.specs.Ordered.{AllOver, Rising, at}
use Rattle.sorted_list.specs.Laws.{at_over, at-put, at-without, rising-put, rising-without}
use Rattle.stranger_machine.specs.declared.state.Stranger.{Stranger}
use Rattle.stranger_machine.specs.declared.table.Known.{Known}
use Rattle.stranger_machine.specs.declared.turn.Notice.{Notice}
use Rattle.stranger_machine.specs.declared.turn.Notice.TheVariants.{Tick, Gone, Listed}
use Rattle.identity_slots.specs.Ids.{station_in}
use Rattle.stranger_machine.specs.Machine.{Input, Nothing, Notes, is_meant, loses, notes, stranger_step, ticks, unlists}
use Rattle.stranger_machine.specs.Turns.{closing, stays}
use Rattle.stranger_machine.specs.Table.{known_id, known_if, noted, stranger_at, with_input, with_stranger}

-- ---- one stranger

-- nothing reaches a stranger: it stays, and sends nothing
pub at_nothing : (ps : List Profile) (id : ℕ) (s : Option Stranger) → stranger_step ps id s Nothing ≡ stays s []
unfolding stranger_step
at_nothing ps id s = refl

closed_either : (b : Bool) → (if b then closing [] else stays None []) ≡ stays None []
closed_either true = refl
closed_either false = refl

-- a notice leaves one that is closed as it is
pub closed_notes : (id : ℕ) (notice : Notice) → notes id None notice ≡ stays None []
unfolding notes ticks loses unlists
closed_notes id Tick = refl
closed_notes id (Gone e) = closed_either (station_in id == e)
closed_notes id (Listed e items) = closed_either (is_meant id e items)

pub at_notice : (ps : List Profile) (id : ℕ) (s : Option Stranger) (notice : Notice)
    → stranger_step ps id s (Notes notice) ≡ notes id s notice
unfolding stranger_step
at_notice ps id s notice = refl

-- ---- the ids rise

known_over : (n id : ℕ) (s : Option Stranger) (ks : List Known) → n < id → AllOver known_id n ks
    → AllOver known_id n (known_if id s ks)
known_over n id None ks lt h = h
known_over n id (Some s) ks lt h = (lt, h)

pub over_noted : (n : ℕ) (notice : Notice) (ks : List Known) → AllOver known_id n ks → AllOver known_id n (noted notice ks)
over_noted n notice [] h = tt
over_noted n notice (k ∷ ks) h =
    known_over n k.id (notes k.id (Some k.stranger) notice).stranger (noted notice ks) h.0 (over_noted n notice ks h.1)

known_rising : (id : ℕ) (s : Option Stranger) (ks : List Known) → AllOver known_id id ks → Rising known_id ks
    → Rising known_id (known_if id s ks)
known_rising id None ks o h = h
known_rising id (Some s) ks o h = (o, h)

pub rising_noted : (notice : Notice) (ks : List Known) → Rising known_id ks → Rising known_id (noted notice ks)
rising_noted notice [] h = tt
rising_noted notice (k ∷ ks) h =
    known_rising k.id (notes k.id (Some k.stranger) notice).stranger (noted notice ks) (over_noted k.id notice ks h.0)
    (rising_noted notice ks h.1)

rising_with : (id : ℕ) (s : Option Stranger) (ks : List Known) → Rising known_id ks → Rising known_id (with_stranger id s ks)
rising_with id None ks h = rising-without known_id id ks h
rising_with id (Some s) ks h = rising-put known_id (record { id = id; stranger = s }) ks h

pub rising_input : (ps : List Profile) (id : ℕ) (input : Input) (ks : List Known) → Rising known_id ks
    → Rising known_id (with_input ps id input ks)
rising_input ps id input ks h = rising_with id (stranger_step ps id (stranger_at id ks) input).stranger ks h

-- ---- what is at an id

known_here : (id : ℕ) (s : Option Stranger) (ks : List Known) → AllOver known_id id ks → stranger_at id (known_if id s ks) ≡ s
known_here id None ks h = ap (option_map (λ (k : Known). k.stranger)) (at_over known_id id ks h)
known_here id (Some s) ks h = grind (arith, nat_tests)

known_past : (id n : ℕ) (s : Option Stranger) (ks : List Known) → n ≢ id → stranger_at id (known_if n s ks) ≡ stranger_at id ks
known_past id n None ks ne = refl
known_past id n (Some s) ks ne = grind (arith, nat_tests)

noted_by : (id : ℕ) (notice : Notice) (k : Known) (ks : List Known) (b : Bool) → (k.id == id) ≡ b → Rising known_id (k ∷ ks)
    → stranger_at id (noted notice ks) ≡ (notes id (stranger_at id ks) notice).stranger
    → stranger_at id (noted notice (k ∷ ks))
    ≡ (notes id (option_map (λ x. x.stranger) (cond b (Some k) (at known_id id ks))) notice).stranger
noted_by id notice k ks true e h ih =
    let same : k.id ≡ id = grind (arith, nat_tests) in
    ap (λ n. stranger_at n (noted notice (k ∷ ks))) (sym same)
    ∙ known_here k.id (notes k.id (Some k.stranger) notice).stranger (noted notice ks) (over_noted k.id notice ks h.0)
    ∙ ap (λ n. (notes n (Some k.stranger) notice).stranger) same
noted_by id notice k ks false e h ih =
    let other : k.id ≢ id = grind (arith, nat_tests) in
    known_past id k.id (notes k.id (Some k.stranger) notice).stranger (noted notice ks) other ∙ ih

-- a notice reaches each as it is
pub noted_at : (id : ℕ) (notice : Notice) (ks : List Known) → Rising known_id ks
    → stranger_at id (noted notice ks) ≡ (notes id (stranger_at id ks) notice).stranger
noted_at id notice [] h = sym (ap (λ t. t.stranger) (closed_notes id notice))
noted_at id notice (k ∷ ks) h = noted_by id notice k ks (k.id == id) refl h (noted_at id notice ks h.1)

map_cond : (b : Bool) (x y : Option Known)
    → option_map (λ k. k.stranger) (cond b x y) ≡ cond b (option_map (λ k. k.stranger) x) (option_map (λ k. k.stranger) y)
map_cond true x y = refl
map_cond false x y = refl

-- the stranger with the id alone is another one
pub with_at : (id n : ℕ) (s : Option Stranger) (ks : List Known) → Rising known_id ks
    → stranger_at id (with_stranger n s ks) ≡ (if n == id then s else stranger_at id ks)
with_at id n None ks h =
    ap (option_map (λ (k : Known). k.stranger)) (at-without known_id n id ks h) ∙ map_cond (n == id) None (at known_id id ks)
with_at id n (Some s) ks h =
    let k : Known = record { id = n; stranger = s } in
    ap (option_map (λ (k : Known). k.stranger)) (at-put known_id id k ks h) ∙ map_cond (n == id) (Some k) (at known_id id ks)

one_by : (ps : List Profile) (id n : ℕ) (input : Input) (ks : List Known) (b : Bool) → (n == id) ≡ b
    → (if b then (stranger_step ps n (stranger_at n ks) input).stranger else stranger_at id ks)
    ≡ (stranger_step ps id (stranger_at id ks) (if b then input else Nothing)).stranger
one_by ps id n input ks true e =
    let same : n ≡ id = grind (arith, nat_tests) in
    ap (λ m. (stranger_step ps m (stranger_at m ks) input).stranger) same
one_by ps id n input ks false e = sym (ap (λ t. t.stranger) (at_nothing ps id (stranger_at id ks)))

-- where one takes an input, each goes as its own machine
pub one_turned : (ps : List Profile) (id n : ℕ) (input : Input) (ks : List Known) → Rising known_id ks
    → stranger_at id (with_input ps n input ks)
    ≡ (stranger_step ps id (stranger_at id ks) (if n == id then input else Nothing)).stranger
one_turned ps id n input ks h =
    with_at id n (stranger_step ps n (stranger_at n ks) input).stranger ks h ∙ one_by ps id n input ks (n == id) refl

-- and at a notice
pub all_turned : (ps : List Profile) (id : ℕ) (notice : Notice) (ks : List Known) → Rising known_id ks
    → stranger_at id (noted notice ks) ≡ (stranger_step ps id (stranger_at id ks) (Notes notice)).stranger
all_turned ps id notice ks h = noted_at id notice ks h ∙ sym (ap (λ t. t.stranger) (at_notice ps id (stranger_at id ks) notice))
