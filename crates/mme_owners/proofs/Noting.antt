-- A notice of a station to the strangers of that station, one after the other.
use Rattle.std.proofs.Common.{◌≡◌, ℕ, ◌+◌, ◌<◌, ◌≤◌, List, [], ◌∷◌, Bool, true, false, Option, Some, None, refl, sym, ◌∙◌, ap, subst, arith}
use Rattle.std.specs.Prelude.{◌==◌, nat_lt, if◌then◌else◌, cond, option_map, IsSome}
use Rattle.std.proofs.lemmas.Bool.Decides.{nat_tests}
use Rattle.sorted_list.specs.Ordered.{AllOver, Rising, at, without}
use Rattle.sorted_list.specs.Sorted.{lowest_from}
use Rattle.identity_slots.specs.Ids.{station_in}
use Rattle.stranger_machine.specs.declared.table.Known.{Known}
use Rattle.stranger_machine.specs.declared.turn.Notice.{Notice}
use Rattle.stranger_machine.specs.Machine.{closes, is_of_station, noted_station, notes}
use Rattle.stranger_machine.specs.StationLaws.{others_stay, station_notes}
use Rattle.stranger_machine.specs.Table.{known_id, known_if, noted, stranger_at}
use Rattle.stranger_machine.specs.Turns.{Turn, closing, stays}

-- those whose ids are at least the number have taken it
abbrev pub noted_from : ℕ → Notice → List Known → List Known
noted_from n notice [] = []
noted_from n notice (k ∷ ks) = if nat_lt k.id n then k ∷ noted_from n notice ks else noted notice (k ∷ ks)

-- ---- those of other stations

left_by : (notice : Notice) (k : Known) → is_of_station notice ≡ true → closes k.id notice ≡ false
    → (notes k.id (Some k.stranger) notice).stranger ≡ Some k.stranger
left_by notice k h apart =
    ap (λ (t : Turn). t.stranger)
    (station_notes k.id (Some k.stranger) notice h ∙ ap (λ b. cond b (closing []) (stays (Some k.stranger) [])) apart)

keeps : (notice : Notice) (k : Known) (ks : List Known) → is_of_station notice ≡ true → closes k.id notice ≡ false
    → noted notice (k ∷ ks) ≡ k ∷ noted notice ks
keeps notice k ks h apart = ap (λ o. known_if k.id o (noted notice ks)) (left_by notice k h apart)

-- ---- the walk

-- it begins at an id that none of the station is below
begin_by : (n : ℕ) (notice : Notice) (k : Known) (ks : List Known) (b : Bool) → nat_lt k.id n ≡ b → is_of_station notice ≡ true
    → (k.id < n → closes k.id notice ≡ false) → noted_from n notice ks ≡ noted notice ks
    → cond b (k ∷ noted_from n notice ks) (noted notice (k ∷ ks)) ≡ noted notice (k ∷ ks)
begin_by n notice k ks true t h apart ih = ap (λ xs. k ∷ xs) ih ∙ sym (keeps notice k ks h (apart (grind (arith, nat_tests))))
begin_by n notice k ks false t h apart ih = refl

begin_from : (n : ℕ) (notice : Notice) (ks : List Known) → is_of_station notice ≡ true
    → ((id : ℕ) → id < n → closes id notice ≡ false) → noted_from n notice ks ≡ noted notice ks
begin_from n notice [] h apart = refl
begin_from n notice (k ∷ ks) h apart = begin_by n notice k ks (nat_lt k.id n) refl h (apart k.id) (begin_from n notice ks h apart)

below : (n id e : ℕ) → ((i : ℕ) → station_in i ≡ e → n ≤ i) → id < n → (station_in id == e) ≡ false
below n id e least lt = let far = least id in grind (arith, nat_tests)

pub walk_begins : (n : ℕ) (notice : Notice) (ks : List Known) → is_of_station notice ≡ true
    → ((id : ℕ) → station_in id ≡ noted_station notice → n ≤ id) → noted_from n notice ks ≡ noted notice ks
walk_begins n notice ks h least =
    begin_from n notice ks h (λ id lt. others_stay id notice (below n id (noted_station notice) least lt))

-- and ends where nobody is left
end_by : (n : ℕ) (notice : Notice) (k : Known) (ks : List Known) (b : Bool) → cond b (lowest_from known_id n ks) (Some k) ≡ None
    → (lowest_from known_id n ks ≡ None → noted_from n notice ks ≡ ks)
    → cond b (k ∷ noted_from n notice ks) (noted notice (k ∷ ks)) ≡ k ∷ ks
end_by n notice k ks true q ih = ap (λ xs. k ∷ xs) (ih q)
end_by n notice k ks false q ih = absurd cc

none_left : (n : ℕ) (notice : Notice) (ks : List Known) → lowest_from known_id n ks ≡ None → noted_from n notice ks ≡ ks
none_left n notice [] q = refl
none_left n notice (k ∷ ks) q = end_by n notice k ks (nat_lt k.id n) q (none_left n notice ks)

pub walk_ends : (n : ℕ) (notice : Notice) (ks : List Known) (o : Option Known) → lowest_from known_id n ks ≡ o
    → option_map known_id o ≡ None → noted_from n notice ks ≡ ks
walk_ends n notice ks None q h = none_left n notice ks q
walk_ends n notice ks (Some k) q h = absurd cc

-- or at one of a later station
station_rises : (i j : ℕ) → i ≤ j → station_in i ≤ station_in j
station_rises i j le = omega arith

beyond : (m id : ℕ) (notice : Notice) → m ≤ id → noted_station notice < station_in m → closes id notice ≡ false
beyond m id notice le lt =
    let up = station_rises m id le in
    let other : (station_in id == noted_station notice) ≡ false = grind (arith, nat_tests) in
    others_stay id notice other

all_beyond : (m : ℕ) (notice : Notice) (ks : List Known) → is_of_station notice ≡ true → noted_station notice < station_in m
    → AllOver known_id m ks → noted notice ks ≡ ks
all_beyond m notice [] h lt o = refl
all_beyond m notice (k ∷ ks) h lt o =
    let le = o.0 in
    keeps notice k ks h (beyond m k.id notice (omega arith) lt) ∙ ap (λ xs. k ∷ xs) (all_beyond m notice ks h lt o.1)

stop_by : (n : ℕ) (notice : Notice) (x k : Known) (ks : List Known) (b : Bool)
    → cond b (lowest_from known_id n ks) (Some k) ≡ Some x → is_of_station notice ≡ true → noted_station notice < station_in x.id
    → AllOver known_id k.id ks → (lowest_from known_id n ks ≡ Some x → noted_from n notice ks ≡ ks)
    → cond b (k ∷ noted_from n notice ks) (noted notice (k ∷ ks)) ≡ k ∷ ks
stop_by n notice x k ks true q h lt o ih = ap (λ xs. k ∷ xs) (ih q)
stop_by n notice x k ks false q h lt o ih =
    let same : k ≡ x = cc in
    let later : noted_station notice < station_in k.id =
    subst (λ (z : Known). noted_station notice < station_in z.id) (sym same) lt in
    keeps notice k ks h (beyond k.id k.id notice (omega arith) later) ∙ ap (λ xs. k ∷ xs) (all_beyond k.id notice ks h later o)

stop_at : (n : ℕ) (notice : Notice) (x : Known) (ks : List Known) → lowest_from known_id n ks ≡ Some x → is_of_station notice ≡ true
    → noted_station notice < station_in x.id → Rising known_id ks
    → noted_from n notice ks ≡ ks
stop_at n notice x [] q h lt r = absurd cc
stop_at n notice x (k ∷ ks) q h lt r = stop_by n notice x k ks (nat_lt k.id n) q h lt r.0 (λ p. stop_at n notice x ks p h lt r.1)

pub walk_stops : (n id : ℕ) (notice : Notice) (ks : List Known) (o : Option Known) → lowest_from known_id n ks ≡ o
    → option_map known_id o ≡ Some id → is_of_station notice ≡ true
    → noted_station notice < station_in id → Rising known_id ks → noted_from n notice ks ≡ ks
walk_stops n id notice ks None q e h lt r = absurd cc
walk_stops n id notice ks (Some k) q e h lt r =
    let own : k.id ≡ id = cc in stop_at n notice k ks q h (subst (λ i. noted_station notice < station_in i) (sym own) lt) r

-- ---- a step of it

over_by : (n : ℕ) (notice : Notice) (k : Known) (ks : List Known) → n < k.id
    → noted_from (n + 1) notice (k ∷ ks) ≡ noted notice (k ∷ ks)
over_by n notice k ks lt = let none : nat_lt k.id (n + 1) ≡ false = grind (arith, nat_tests) in rw none refl

noted_over : (n : ℕ) (notice : Notice) (ks : List Known) → AllOver known_id n ks → noted_from (n + 1) notice ks ≡ noted notice ks
noted_over n notice [] h = refl
noted_over n notice (k ∷ ks) h = over_by n notice k ks h.0

skip : (n : ℕ) (notice : Notice) (k : Known) (ks : List Known) → k.id < n
    → noted_from n notice (k ∷ ks) ≡ k ∷ noted_from n notice ks
skip n notice k ks lt = let under : nat_lt k.id n ≡ true = grind (arith, nat_tests) in rw under refl

from_high : (n : ℕ) (k : Known) (ks : List Known) → lowest_from known_id n ks ≡ Some k → n ≤ k.id
from_high n k [] q = absurd cc
from_high n k (y ∷ ys) q = let ih = from_high n k ys in grind (arith, nat_tests)

goes : (k : Known) (ks : List Known) → without known_id k.id (k ∷ ks) ≡ ks
goes k ks = grind (arith, nat_tests)

past : (id : ℕ) (k : Known) (ks : List Known) → k.id < id → without known_id id (k ∷ ks) ≡ k ∷ without known_id id ks
past id k ks lt = grind (arith, nat_tests)

-- one that it closes is gone
close_by : (n : ℕ) (notice : Notice) (x k : Known) (ks : List Known) (b : Bool) → nat_lt k.id n ≡ b → is_of_station notice ≡ true
    → closes x.id notice ≡ true → AllOver known_id k.id ks
    → cond b (lowest_from known_id n ks) (Some k) ≡ Some x → (lowest_from known_id n ks ≡ Some x → n ≤ x.id)
    → (lowest_from known_id n ks ≡ Some x → noted_from (x.id + 1) notice (without known_id x.id ks) ≡ noted_from n notice ks)
    → noted_from (x.id + 1) notice (without known_id x.id (k ∷ ks)) ≡ cond b (k ∷ noted_from n notice ks) (noted notice (k ∷ ks))
close_by n notice x k ks true t h meant o q le ih =
    let high = le q in
    let under : k.id < n = grind (arith, nat_tests) in
    ap (noted_from (x.id + 1) notice) (past x.id k ks (omega arith))
    ∙ skip (x.id + 1) notice k (without known_id x.id ks) (omega arith) ∙ ap (λ xs. k ∷ xs) (ih q)
close_by n notice x k ks false t h meant o q le ih =
    let same : k ≡ x = cc in
    let its : closes k.id notice ≡ true = ap (λ (z : Known). closes z.id notice) same ∙ meant in
    let none =
    ap (λ (t : Turn). t.stranger)
    (station_notes k.id (Some k.stranger) notice h ∙ ap (λ b. cond b (closing []) (stays (Some k.stranger) [])) its) in
    subst (λ (z : Known). noted_from (z.id + 1) notice (without known_id z.id (k ∷ ks)) ≡ noted notice (k ∷ ks)) same
    (ap (noted_from (k.id + 1) notice) (goes k ks) ∙ noted_over k.id notice ks o ∙ sym (ap (λ s. known_if k.id s (noted notice ks)) none))

close_at : (n : ℕ) (notice : Notice) (x : Known) (ks : List Known) → is_of_station notice ≡ true → closes x.id notice ≡ true
    → Rising known_id ks → lowest_from known_id n ks ≡ Some x
    → noted_from (x.id + 1) notice (without known_id x.id ks) ≡ noted_from n notice ks
close_at n notice x [] h meant r q = absurd cc
close_at n notice x (k ∷ ks) h meant r q =
    close_by n notice x k ks (nat_lt k.id n) refl h meant r.0 q (from_high n x ks) (close_at n notice x ks h meant r.1)

-- and any other is as it was
leave_by : (n : ℕ) (notice : Notice) (x k : Known) (ks : List Known) (b : Bool) → nat_lt k.id n ≡ b → is_of_station notice ≡ true
    → closes x.id notice ≡ false → AllOver known_id k.id ks
    → cond b (lowest_from known_id n ks) (Some k) ≡ Some x → (lowest_from known_id n ks ≡ Some x → n ≤ x.id)
    → (lowest_from known_id n ks ≡ Some x → noted_from (x.id + 1) notice ks ≡ noted_from n notice ks)
    → noted_from (x.id + 1) notice (k ∷ ks) ≡ cond b (k ∷ noted_from n notice ks) (noted notice (k ∷ ks))
leave_by n notice x k ks true t h apart o q le ih =
    let high = le q in
    let under : k.id < n = grind (arith, nat_tests) in
    skip (x.id + 1) notice k ks (omega arith) ∙ ap (λ xs. k ∷ xs) (ih q)
leave_by n notice x k ks false t h apart o q le ih =
    let same : k ≡ x = cc in
    let its : closes k.id notice ≡ false = ap (λ (z : Known). closes z.id notice) same ∙ apart in
    subst (λ (z : Known). noted_from (z.id + 1) notice (k ∷ ks) ≡ noted notice (k ∷ ks)) same
    (skip (k.id + 1) notice k ks (omega arith) ∙ ap (λ xs. k ∷ xs) (noted_over k.id notice ks o) ∙ sym (keeps notice k ks h its))

leave_at : (n : ℕ) (notice : Notice) (x : Known) (ks : List Known) → is_of_station notice ≡ true → closes x.id notice ≡ false
    → Rising known_id ks → lowest_from known_id n ks ≡ Some x
    → noted_from (x.id + 1) notice ks ≡ noted_from n notice ks
leave_at n notice x [] h apart r q = absurd cc
leave_at n notice x (k ∷ ks) h apart r q =
    leave_by n notice x k ks (nat_lt k.id n) refl h apart r.0 q (from_high n x ks) (leave_at n notice x ks h apart r.1)

-- the same by the id alone
pub walk_closes : (n id : ℕ) (notice : Notice) (ks : List Known) (o : Option Known) → lowest_from known_id n ks ≡ o
    → option_map known_id o ≡ Some id → is_of_station notice ≡ true
    → closes id notice ≡ true → Rising known_id ks → noted_from (id + 1) notice (without known_id id ks) ≡ noted_from n notice ks
walk_closes n id notice ks None q e h meant r = absurd cc
walk_closes n id notice ks (Some k) q e h meant r =
    let own : k.id ≡ id = cc in
    subst (λ i. noted_from (i + 1) notice (without known_id i ks) ≡ noted_from n notice ks) own
    (close_at n notice k ks h (subst (λ i. closes i notice ≡ true) (sym own) meant) r q)

pub walk_leaves : (n id : ℕ) (notice : Notice) (ks : List Known) (o : Option Known) → lowest_from known_id n ks ≡ o
    → option_map known_id o ≡ Some id → is_of_station notice ≡ true
    → closes id notice ≡ false → Rising known_id ks → noted_from (id + 1) notice ks ≡ noted_from n notice ks
walk_leaves n id notice ks None q e h apart r = absurd cc
walk_leaves n id notice ks (Some k) q e h apart r =
    let own : k.id ≡ id = cc in
    subst (λ i. noted_from (i + 1) notice ks ≡ noted_from n notice ks) own
    (leave_at n notice k ks h (subst (λ i. closes i notice ≡ false) (sym own) apart) r q)

pub walk_high : (n id : ℕ) (ks : List Known) (o : Option Known) → lowest_from known_id n ks ≡ o → option_map known_id o ≡ Some id
    → n ≤ id
walk_high n id ks None q e = absurd cc
walk_high n id ks (Some k) q e = let own : k.id ≡ id = cc in let high = from_high n k ks q in omega arith

-- who is found is there
lowest_over : (n j : ℕ) (k : Known) (ks : List Known) → AllOver known_id j ks → lowest_from known_id n ks ≡ Some k → j < k.id
lowest_over n j k [] h q = absurd cc
lowest_over n j k (y ∷ ys) h q = let ih = lowest_over n j k ys h.1 in let lt : j < y.id = h.0 in grind (arith, nat_tests)

at_lowest_by : (n : ℕ) (k : Known) (ks : List Known) → Rising known_id ks → lowest_from known_id n ks ≡ Some k
    → at known_id k.id ks ≡ Some k
at_lowest_by n k [] h q = absurd cc
at_lowest_by n k (y ∷ ys) h q =
    let ih = at_lowest_by n k ys h.1 in let over = lowest_over n y.id k ys h.0 in grind (arith, nat_tests)

pub walk_there : (n id : ℕ) (ks : List Known) (o : Option Known) → lowest_from known_id n ks ≡ o → option_map known_id o ≡ Some id
    → Rising known_id ks → IsSome (stranger_at id ks)
walk_there n id ks None q e r = absurd cc
walk_there n id ks (Some k) q e r =
    let own : k.id ≡ id = cc in
    let there : at known_id id ks ≡ Some k = subst (λ i. at known_id i ks ≡ Some k) own (at_lowest_by n k ks r q) in
    rw there refl

-- ---- a step, and where it leads

pub walk_steps : (n id : ℕ) (notice : Notice) (ks : List Known) (b : Bool) → closes id notice ≡ b
    → option_map known_id (lowest_from known_id n ks) ≡ Some id → is_of_station notice ≡ true → Rising known_id ks
    → noted_from (id + 1) notice (if b then without known_id id ks else ks) ≡ noted_from n notice ks
walk_steps n id notice ks true c e h r = walk_closes n id notice ks (lowest_from known_id n ks) refl e h c r
walk_steps n id notice ks false c e h r = walk_leaves n id notice ks (lowest_from known_id n ks) refl e h c r

pub station_next : (e id : ℕ) → e ≤ station_in id → e ≤ station_in (id + 1)
station_next e id le = let up = station_rises id (id + 1) (omega arith) in omega arith

pub station_later : (e n id : ℕ) → e ≤ station_in n → n ≤ id → (station_in id == e) ≡ false → e < station_in id
station_later e n id le high apart = let up = station_rises n id high in grind (arith, nat_tests)

pub station_up : (e n id : ℕ) → e ≤ station_in n → n ≤ id → e ≤ station_in id
station_up e n id le high = let up = station_rises n id high in omega arith
