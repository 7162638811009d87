-- What a tick makes of the queue.
use Rattle.std.proofs.Common.{◌≡◌, ◌↔◌, ℕ, ◌+◌, ◌-◌, ◌*◌, ◌^◌, ◌<◌, ◌≤◌, List, [], ◌∷◌, ◌++◌, length, map, refl, sym, ◌∙◌, ap, subst, arith, append_assoc, append-nil}
use Rattle.std.specs.Prelude.{nat_lt, nat_le, Bool, true, false, cond, Some, None, if◌then◌else◌}
use Rattle.std.proofs.lemmas.Bool.Decides.{nat_tests}
use Rattle.sorted_list.specs.Ordered.{add, ordered, AllOver, Rising, Every}
use Rattle.sorted_list.specs.Indexed.{every-ordered}
use Rattle.sorted_list.specs.Sorted.{lowest, lowest_from}
use Rattle.timer_queue.specs.Countdowns.{Countdown}
use Rattle.timer_queue.specs.declared.timer.Timer.{Timer}
use Rattle.timer_queue.specs.declared.queue.Deadline.{Deadline}
use Rattle.timer_queue.specs.Rank.{rank}
use Rattle.timer_queue.specs.Countdowns.{due_of, aged}
use Rattle.timer_queue.specs.Queued.{name, moment, as_left, running_at, leading, later_than, IsQueue, AreLate}
use Rattle.timer_queue.proofs.Changes.{rank_small}

-- an entry that is due stands before the others that are due
abbrev IsAfter : ℕ → Deadline → Deadline → Type 0
IsAfter next e z = z.deadline ≤ next → name e < name z

due_add_by : (c : ℕ) (e y : Deadline) (ys : List Deadline) (b : Bool) → nat_lt (name y) (name e) ≡ b → e.deadline ≤ c + 1
    → IsAfter (c + 1) e y
    → due_of (map (as_left c) (add name e ys)) ≡ e.timer ∷ due_of (map (as_left c) ys)
    → due_of (map (as_left c) (cond b (y ∷ add name e ys) (e ∷ y ∷ ys))) ≡ e.timer ∷ due_of (map (as_left c) (y ∷ ys))
due_add_by c e y ys true t due after ih =
    let later : nat_le (y.deadline - c) 1 ≡ false = grind (arith, nat_tests) in
    rw later ih
due_add_by c e y ys false t due after ih =
    let now : nat_le (e.deadline - c) 1 ≡ true = grind (arith, nat_tests) in
    rw now refl

due_add : (c : ℕ) (e : Deadline) (zs : List Deadline) → e.deadline ≤ c + 1 → Every (IsAfter (c + 1) e) zs
    → due_of (map (as_left c) (add name e zs)) ≡ e.timer ∷ due_of (map (as_left c) zs)
due_add c e [] due h = let now : nat_le (e.deadline - c) 1 ≡ true = grind (arith, nat_tests) in rw now refl
due_add c e (y ∷ ys) due h = due_add_by c e y ys (nat_lt (name y) (name e)) refl due h.0 (due_add c e ys due h.1)

aged_add : (c : ℕ) (e : Deadline) (zs : List Deadline) → e.deadline ≤ c + 1
    → aged (map (as_left c) (add name e zs)) ≡ aged (map (as_left c) zs)
aged_add c e [] due = let now : nat_le (e.deadline - c) 1 ≡ true = grind (arith, nat_tests) in rw now refl
aged_add c e (y ∷ ys) due =
    let now : nat_le (e.deadline - c) 1 ≡ true = grind (arith, nat_tests) in
    let ih = aged_add c e ys due in
    grind (arith, nat_tests)

due_none : (c : ℕ) (zs : List Deadline) → Every (λ z. c + 1 < z.deadline) zs → due_of (map (as_left c) zs) ≡ []
due_none c [] h = refl
due_none c (z ∷ zs) h = let lt : c + 1 < z.deadline = h.0 in let later : nat_le (z.deadline - c) 1 ≡ false = grind (arith, nat_tests) in rw later (due_none c zs h.1)

aged_all : (c : ℕ) (zs : List Deadline) → Every (λ z. c + 1 < z.deadline) zs → aged (map (as_left c) zs) ≡ map (as_left (c + 1)) zs
aged_all c [] h = refl
aged_all c (z ∷ zs) h =
    let lt : c + 1 < z.deadline = h.0 in
    let later : nat_le (z.deadline - c) 1 ≡ false = grind (arith, nat_tests) in
    let one : (z.deadline - c) - 1 ≡ z.deadline - (c + 1) = omega arith in
    rw later (ap (λ n. record { timer = z.timer; ticks = n } ∷ aged (map (as_left c) zs)) one ∙ ap (λ cs. as_left (c + 1) z ∷ cs) (aged_all c zs h.1))

after_by : (c a r b s : ℕ) → a * 2 ^ 64 + r < b * 2 ^ 64 + s → c < a → a ≤ c + 1 → b ≤ c + 1 → s < 2 ^ 64 → r < s
after_by c a r b s lt la le me small = omega arith

afters : (c : ℕ) (e : Deadline) (es : List Deadline) → c < e.deadline → e.deadline ≤ c + 1 → AllOver moment (moment e) es
    → Every (IsAfter (c + 1) e) es
afters c e [] la le h = tt
afters c e (z ∷ zs) la le h = ((λ me. after_by c e.deadline (rank e.timer) z.deadline (rank z.timer) h.0 la le me (rank_small z.timer)), afters c e zs la le h.1)

later_by : (n a r b s : ℕ) → a * 2 ^ 64 + r < b * 2 ^ 64 + s → n < a → s < 2 ^ 64 → n < b
later_by n a r b s lt la small = omega arith

laters : (n : ℕ) (e : Deadline) (es : List Deadline) → n < e.deadline → AllOver moment (moment e) es
    → Every (λ z. n < z.deadline) es
laters n e [] la h = tt
laters n e (z ∷ zs) la h =
    (later_by n e.deadline (rank e.timer) z.deadline (rank z.timer) h.0 la (rank_small z.timer), laters n e zs la h.1)

due_is_by : (c : ℕ) (e : Deadline) (es : List Deadline) (b : Bool) → nat_le e.deadline (c + 1) ≡ b → AllOver moment (moment e) es
    → c < e.deadline → leading (c + 1) es ≡ due_of (running_at c es)
    → cond b (e.timer ∷ leading (c + 1) es) [] ≡ due_of (running_at c (e ∷ es))
due_is_by c e es true t over la ih =
    let le : e.deadline ≤ c + 1 = grind (arith, nat_tests) in
    ap (λ ts. e.timer ∷ ts) ih
    ∙ sym (due_add c e (ordered name es) le (every-ordered (IsAfter (c + 1) e) name es (afters c e es la le over)))
due_is_by c e es false t over la ih =
    let gt : c + 1 < e.deadline = grind (arith, nat_tests) in
    sym
    (due_none c (ordered name (e ∷ es)) (every-ordered (λ z. c + 1 < z.deadline) name (e ∷ es) (gt, laters (c + 1) e es gt over)))

due_in : (c : ℕ) (queue : List Deadline) → Rising moment queue → AreLate c queue
    → leading (c + 1) queue ≡ due_of (running_at c queue)
due_in c [] r l = refl
due_in c (e ∷ es) r l = due_is_by c e es (nat_le e.deadline (c + 1)) refl r.0 l.0 (due_in c es r.1 l.1)

pub due_is : (c : ℕ) (queue : List Deadline) → IsQueue queue → AreLate c queue → leading (c + 1) queue ≡ due_of (running_at c queue)
due_is c queue h l = due_in c queue h.rising l

aged_is_by : (c : ℕ) (e : Deadline) (es : List Deadline) (b : Bool) → nat_le e.deadline (c + 1) ≡ b → AllOver moment (moment e) es
    → running_at (c + 1) (later_than (c + 1) es) ≡ aged (running_at c es)
    → running_at (c + 1) (cond b (later_than (c + 1) es) (e ∷ es)) ≡ aged (running_at c (e ∷ es))
aged_is_by c e es true t over ih =
    let le : e.deadline ≤ c + 1 = grind (arith, nat_tests) in
    ih ∙ sym (aged_add c e (ordered name es) le)
aged_is_by c e es false t over ih =
    let gt : c + 1 < e.deadline = grind (arith, nat_tests) in
    sym
    (aged_all c (ordered name (e ∷ es)) (every-ordered (λ z. c + 1 < z.deadline) name (e ∷ es) (gt, laters (c + 1) e es gt over)))

pub aged_is : (c : ℕ) (queue : List Deadline) → Rising moment queue
    → running_at (c + 1) (later_than (c + 1) queue) ≡ aged (running_at c queue)
aged_is c [] r = refl
aged_is c (e ∷ es) r = aged_is_by c e es (nat_le e.deadline (c + 1)) refl r.0 (aged_is c es r.1)

late_after_by : (n : ℕ) (e : Deadline) (es : List Deadline) (b : Bool) → nat_le e.deadline n ≡ b → AllOver moment (moment e) es
    → AreLate n (later_than n es) → AreLate n (cond b (later_than n es) (e ∷ es))
late_after_by n e es true t over ih = ih
late_after_by n e es false t over ih = let gt : n < e.deadline = grind (arith, nat_tests) in (gt, laters n e es gt over)

pub late_after : (n : ℕ) (queue : List Deadline) → Rising moment queue → AreLate n (later_than n queue)
late_after n [] r = tt
late_after n (e ∷ es) r = late_after_by n e es (nat_le e.deadline n) refl r.0 (late_after n es r.1)

counting_by : (c : ℕ) (zs : List Deadline) → Every (λ z. c < z.deadline) zs
    → Every (λ (x : Countdown). 1 ≤ x.ticks) (map (as_left c) zs)
counting_by c [] h = tt
counting_by c (z ∷ zs) h = let lt : c < z.deadline = h.0 in ((omega arith), counting_by c zs h.1)

pub counting : (c : ℕ) (queue : List Deadline) → AreLate c queue → Every (λ (x : Countdown). 1 ≤ x.ticks) (running_at c queue)
counting c queue l = counting_by c (ordered name queue) (every-ordered (λ z. c < z.deadline) name queue l)

-- the queue from a moment on
abbrev pub rest_from : ℕ → List Deadline → List Deadline
rest_from k [] = []
rest_from k (y ∷ ys) = if nat_lt (moment y) k then rest_from k ys else y ∷ ys

pub rest_all : (queue : List Deadline) → rest_from 0 queue ≡ queue
rest_all [] = refl
rest_all (y ∷ ys) = grind (arith, nat_tests)

rest_over : (k : ℕ) (ys : List Deadline) → AllOver moment k ys → rest_from (k + 1) ys ≡ ys
rest_over k [] h = refl
rest_over k (y ∷ ys) h = let lt : k < moment y = h.0 in grind (arith, nat_tests)

pub rest_none : (k : ℕ) (queue : List Deadline) → lowest_from moment k queue ≡ None → rest_from k queue ≡ []
rest_none k [] h = refl
rest_none k (y ∷ ys) h = let ih = rest_none k ys in grind (arith, nat_tests)

least_from : (k : ℕ) (e : Deadline) (queue : List Deadline) → lowest_from moment k queue ≡ Some e → k ≤ moment e
least_from k e [] h = absurd (cc)
least_from k e (y ∷ ys) h = let ih = least_from k e ys in grind (arith, nat_tests)

rest_next_by : (k : ℕ) (e y : Deadline) (ys : List Deadline) (b : Bool) → nat_lt (moment y) k ≡ b → AllOver moment (moment y) ys
    → cond b (lowest_from moment k ys) (Some y) ≡ Some e
    → (lowest_from moment k ys ≡ Some e → rest_from k ys ≡ e ∷ rest_from (moment e + 1) ys)
    → cond b (rest_from k ys) (y ∷ ys) ≡ e ∷ rest_from (moment e + 1) (y ∷ ys)
rest_next_by k e y ys true t over h ih =
    let le = least_from k e ys h in
    let under : nat_lt (moment y) (moment e + 1) ≡ true = grind (arith, nat_tests) in
    rw under (ih h)
rest_next_by k e y ys false t over h ih =
    let same : y ≡ e = cc in
    let under : nat_lt (moment y) (moment y + 1) ≡ true = grind (arith, nat_tests) in
    let own : y ∷ ys ≡ y ∷ rest_from (moment y + 1) (y ∷ ys) = rw under (ap (λ zs. y ∷ zs) (sym (rest_over (moment y) ys over))) in
    subst (λ z. y ∷ ys ≡ z ∷ rest_from (moment z + 1) (y ∷ ys)) same own

pub rest_next : (k : ℕ) (e : Deadline) (queue : List Deadline) → Rising moment queue → lowest_from moment k queue ≡ Some e
    → rest_from k queue ≡ e ∷ rest_from (moment e + 1) queue
rest_next k e [] r h = absurd (cc)
rest_next k e (y ∷ ys) r h = rest_next_by k e y ys (nat_lt (moment y) k) refl r.0 h (rest_next k e ys r.1)

leading_now : (clock : ℕ) (e : Deadline) (es : List Deadline) → e.deadline ≤ clock
    → leading clock (e ∷ es) ≡ e.timer ∷ leading clock es
leading_now clock e es le = let now : nat_le e.deadline clock ≡ true = grind (arith, nat_tests) in rw now refl

leading_later : (clock : ℕ) (e : Deadline) (es : List Deadline) → clock < e.deadline → leading clock (e ∷ es) ≡ []
leading_later clock e es lt = let later : nat_le e.deadline clock ≡ false = grind (arith, nat_tests) in rw later refl

-- the walk along the front of the queue: before it, at an entry that is due, at one that is not, and at the end
pub walk_begins : (clock : ℕ) (due : List Timer) (queue : List Deadline) → due ≡ []
    → leading clock queue ≡ due ++ leading clock (rest_from 0 queue)
walk_begins clock due queue h = sym (ap (λ ts. ts ++ leading clock (rest_from 0 queue)) h ∙ ap (leading clock) (rest_all queue))

pub walk_goes : (clock k n : ℕ) (e : Deadline) (due more : List Timer) (queue : List Deadline) → Rising moment queue
    → lowest_from moment k queue ≡ Some e → e.deadline ≤ clock → n ≡ moment e
    → more ≡ due ++ e.timer ∷ [] → leading clock queue ≡ due ++ leading clock (rest_from k queue)
    → leading clock queue ≡ more ++ leading clock (rest_from (n + 1) queue)
walk_goes clock k n e due more queue r f le s m h =
    let rest = leading clock (rest_from (moment e + 1) queue) in
    h ∙ ap (λ es. due ++ leading clock es) (rest_next k e queue r f)
    ∙ ap (λ ts. due ++ ts) (leading_now clock e (rest_from (moment e + 1) queue) le)
    ∙ sym (append_assoc due (e.timer ∷ []) rest) ∙ ap (λ ts. ts ++ rest) (sym m)
    ∙ ap (λ j. more ++ leading clock (rest_from (j + 1) queue)) (sym s)

pub walk_shorter : (k n : ℕ) (e : Deadline) (queue : List Deadline) → Rising moment queue → lowest_from moment k queue ≡ Some e
    → n ≡ moment e → length (rest_from (n + 1) queue) < length (rest_from k queue)
walk_shorter k n e queue r f s =
    let next = ap length (rest_next k e queue r f) in
    let same = ap (λ j. length (rest_from (j + 1) queue)) s in
    omega arith

pub walk_stops : (clock k : ℕ) (e : Deadline) (due : List Timer) (queue : List Deadline) → Rising moment queue
    → lowest_from moment k queue ≡ Some e → clock < e.deadline
    → leading clock queue ≡ due ++ leading clock (rest_from k queue) → due ≡ leading clock queue
walk_stops clock k e due queue r f lt h =
    sym (h ∙ ap (λ es. due ++ leading clock es) (rest_next k e queue r f) ∙ ap (λ ts. due ++ ts) (leading_later clock e (rest_from (moment e + 1) queue) lt) ∙ append-nil due)

pub walk_ends : (clock k : ℕ) (due : List Timer) (queue : List Deadline) → lowest_from moment k queue ≡ None
    → leading clock queue ≡ due ++ leading clock (rest_from k queue) → due ≡ leading clock queue
walk_ends clock k due queue f h = sym (h ∙ ap (λ es. due ++ leading clock es) (rest_none k queue f) ∙ append-nil due)

-- the first tells whether any is due
first_by : (t : Timer) (ts : List Timer) (b : Bool) → (b ≡ false) ↔ (cond b (t ∷ ts) [] ≡ [])
first_by t ts true = (λ no. absurd cc, λ no. absurd cc)
first_by t ts false = (λ no. refl, λ no. refl)

pub first_tells : (clock : ℕ) (e : Deadline) (queue : List Deadline) → lowest queue ≡ Some e
    → (nat_le e.deadline clock ≡ false) ↔ (leading clock queue ≡ [])
first_tells clock e [] h = absurd (cc)
first_tells clock e (y ∷ ys) h =
    let same : y ≡ e = cc in
    subst (λ (z : Deadline). (nat_le z.deadline clock ≡ false) ↔ (leading clock (y ∷ ys) ≡ [])) same
    (first_by y.timer (leading clock ys) (nat_le y.deadline clock))

pub none_leads : (clock : ℕ) (queue : List Deadline) → lowest queue ≡ None → (false ≡ false) ↔ (leading clock queue ≡ [])
none_leads clock [] h = (λ no. refl, λ no. refl)
none_leads clock (y ∷ ys) h = absurd (cc)

pub moment_fits : (d r clock : ℕ) → d ≤ clock → clock < 2 ^ 63 → r < 2 ^ 64 → d * 2 ^ 64 + r + 1 < 2 ^ 128
moment_fits d r clock le small h = omega arith
