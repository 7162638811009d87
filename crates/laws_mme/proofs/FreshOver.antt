-- What is fresh over the acts of a slot: over each stretch it is as over items, and a stretch ends where no vector is left, so all
-- that comes later is of later vectors.
use Rattle.std.proofs.Common.{◌≡◌, inl, inr, ℕ, zero, suc, ◌<◌, ◌≤◌, ◌==◌, ◌&&◌, Bool, true, false, cond, not, List, [], ◌∷◌, ◌++◌, All, AllPairs, Option, Some, None, length, option_to_list, append-nil, append_assoc, refl, sym, ◌∙◌, ap, subst, arith}
use Rattle.std.specs.Prelude.{slice_get}
use Rattle.std.specs.List.{AllZip}
use Rattle.std.proofs.lemmas.List.Elements.{All-append, All-cons, All-head, All-nil, All-tail, All-weaker}
use Rattle.std.proofs.lemmas.List.Kept.{AllPairs-cons}
use Rattle.std.proofs.lemmas.Option.{same_Some, slice_get_within}
use Rattle.identity_slots.specs.declared.profile.Vector.{Vector}
use Rattle.mme_types.specs.declared.network.Network.{Network}
use Rattle.mme_types.specs.declared.octets.Mark.{Mark}
use Rattle.mme_types.specs.Events.{Item}
use Rattle.emm_state.specs.declared.draft.Draft.{Draft}
use Rattle.emm_state.specs.declared.setting.Setting.{Setting}
use Rattle.emm_state.specs.declared.solo.Context.{Context}
use Rattle.emm_state.specs.declared.solo.Phase.{Phase}
use Rattle.emm_state.specs.declared.solo.Phase.TheVariants.{Deregistered, Authenticating, SecurityMode}
use Rattle.emm_state.specs.declared.solo.Solo.{Solo}
use Rattle.emm_machine.specs.Freshness.{AcceptsAhead, AcceptsOnce, IsAhead, IsBefore, IsInUse, IsOfContext, MakesAhead, MakesOnce, SendsAhead, SendsOnce, StaysInUse, accepted_marks, counts_anew, marks_of, next_down, next_place, next_up, place_made, places_made, sent_marks}
use Rattle.emm_machine.specs.Given.{is_stocked, with_given}
use Rattle.emm_machine.specs.Steps.{solo_after, solo_step}
use Rattle.emm_machine.specs.SubscriberView.{SubscriberView}
use Rattle.emm_machine.specs.Words.{fresh_solo}
use Rattle.laws_subscriber.specs.Choices.{either}
use Rattle.laws_subscriber.specs.Clocked.{StaysClocked}
use Rattle.laws_subscriber.specs.Marked.{IsFormUnder, SendsInOrder}
use Rattle.laws_subscriber.specs.Sound.{HasContext, IsOfVector, IsSound, StaysSound}
use Rattle.mme_core.specs.Provisioning.{fresh_subscriber}
use Rattle.mme_core.specs.World.{subscriber_after, subscriber_step}
use Rattle.laws_mme.specs.ActsAlone.{OwnAct, OwnItem, OwnProfile, OwnVector}
use Rattle.laws_mme.specs.Challenges.{VectorsOverRuns}
use Rattle.laws_mme.specs.Late.{GoesOnOrRanOut, RanOut}
use Rattle.laws_mme.specs.OverActs.{IsAheadOf, IsFreshOver, accepted_marks_at, places_made_at, over_acts, sent_marks_at}
use Rattle.laws_mme.proofs.Accepted.{AcceptedBy, accepted_by_own}
use Rattle.laws_mme.proofs.Guards.{IsInUseAt}
use Rattle.laws_mme.proofs.Holding.{floor_le}
use Rattle.laws_mme.proofs.Stretches.{IsStretch, along, along_longer, along_push, stretch_begun, stretch_given, stretch_item, used_given, used_item}

-- ---- lists

module _ {A : Type 0} (R : A → A → Type 0) where
  pairs_head : (x : A) (xs : List A) → AllPairs R (x ∷ xs) → All (R x) xs
  pairs_head x xs h = λ k d lt. h zero (suc k) d (omega arith) (omega (arith, lt))

  pairs_tail : (x : A) (xs : List A) → AllPairs R (x ∷ xs) → AllPairs R xs
  pairs_tail x xs h = λ i j d lt within. h (suc i) (suc j) d (omega (arith, lt)) (omega (arith, within))

  pairs_append : (xs ys : List A) → AllPairs R xs → AllPairs R ys → All (λ x. All (R x) ys) xs → AllPairs R (xs ++ ys)
  pairs_append [] ys h g cross = g
  pairs_append (x ∷ xs) ys h g cross =
      AllPairs-cons R x (xs ++ ys)
      (All-append (R x) xs ys (pairs_head x xs h) (All-head (λ y. All (R y) ys) x xs cross))
      (pairs_append xs ys (pairs_tail x xs h) g (All-tail (λ y. All (R y) ys) x xs cross))

no_pairs : {A : Type 0} (R : A → A → Type 0) → AllPairs R []
no_pairs R = λ i j d lt within. absurd (omega arith)

-- where there is none at a place the list is no longer
past_end : {A : Type 0} (xs : List A) (n : ℕ) → slice_get xs n ≡ None → length xs ≤ n
past_end [] n none = omega arith
past_end (x ∷ xs) zero none = absurd (cc none)
past_end (x ∷ xs) (suc n) none = let le = past_end xs n none in omega (arith, le)

-- ---- contexts

-- who is deregistered has none
pub no_context : (s : Setting) (solo : Solo) → solo.phase ≡ Deregistered → IsSound s solo → solo.context ≡ None
no_context s solo is h = subst (λ (p : Phase). HasContext p s.vectors solo.context) is h.context

of_vector : (vs : List Vector) (x y : Context) (v : Vector) → Some y ≡ Some x → IsOfVector vs x v → y.place < length vs
of_vector vs x y v is of =
    subst (λ (c : Context). c.place < length vs) (sym (same_Some y x is)) (slice_get_within vs x.place v of.there)

-- a context is of a vector in the list
placed : (phase : Phase) (vs : List Vector) (y : Context) → HasContext phase vs (Some y) → y.place < length vs
placed Deregistered vs y h = absurd (cc h)
placed Authenticating vs y h = absurd (cc h)
placed SecurityMode vs y h = of_vector vs h.0 y h.1 h.2 h.3
placed _ vs y h = of_vector vs h.0 y h.1 h.2 h.3

-- ---- one kind of what is gathered

-- what holds of it over items; each is of the vector at a place
pub record IsFreshKind {A : Type 0} (f : Solo → Draft → List A) (before : A → A → Type 0) (Ahead : Solo → A → Type 0) (place : A → ℕ) : Type 0 where
  pub ahead : (s : Setting) (b : Solo) (items : List Item) → IsInUse b → All (Ahead b) (along f s b items)
  pub once : (s : Setting) (b : Solo) (items : List Item) → IsInUse b → AllPairs before (along f s b items)
  pub below : (s : Setting) (b : Solo) (items : List Item) → IsSound s b → All (λ m. place m < length s.vectors) (along f s b items)
  pub gone : (y : Solo) (m : A) → y.phase ≡ Deregistered → y.context ≡ None → Ahead y m → y.next_vector ≤ place m
  pub later : (b : Solo) (m : A) → b.next_vector ≤ place m → Ahead b m
  pub apart : (k m : A) → place k < place m → before k m

-- from a state on
pub record AreFresh {A : Type 0} (before : A → A → Type 0) (Ahead : Solo → A → Type 0) (b : Solo) (xs : List A) : Type 0 where
  pub all : All (Ahead b) xs
  pub pairs : AllPairs before xs

module _ (splits : GoesOnOrRanOut) (stays : StaysInUse) (sounds : StaysSound) (clocks : StaysClocked) (spends : VectorsOverRuns)
    (n : Network) (slot : ℕ) {A : Type 0} {f : Solo → Draft → List A} {before : A → A → Type 0} {Ahead : Solo → A → Type 0}
    {place : A → ℕ} (kind : IsFreshKind f before Ahead place) where
  abbrev Rest : SubscriberView → List OwnAct → List A
  Rest x acts = over_acts f n slot (Some x) acts

  -- one more step, and what comes after it
  with_step : (x : SubscriberView) (b : Solo) (seen : List Item) (item : Item) (rest : List A) → IsStretch x b seen
      → along f x.setting b (seen ++ item ∷ []) ++ rest ≡ along f x.setting b seen ++ (f x.solo (subscriber_step x item) ++ rest)
  with_step x b seen item rest h =
      ap (λ (zs : List A). zs ++ rest) (along_push f x.setting b seen item)
      ∙ append_assoc (along f x.setting b seen) (f (solo_after x.setting b seen) (solo_step x.setting (solo_after x.setting b seen) item)) rest
      ∙ ap (λ (o : Solo). along f x.setting b seen ++ (f o (solo_step x.setting o item) ++ rest)) (sym h.state)

  -- where no vector was left all that follows is of later ones
  cut : (x : SubscriberView) (b : Solo) (seen : List Item) (item : Item) (rest : List A) → IsInUseAt x → IsStretch x b seen
      → RanOut x.setting x.solo item → AreFresh before Ahead (subscriber_after x item).solo rest
      → AreFresh before Ahead b (along f x.setting b (seen ++ item ∷ []) ++ rest)
  cut x b seen item rest u h out after =
      let y : SubscriberView = subscriber_after x item in
      let first : List A = along f x.setting b (seen ++ item ∷ []) in
      let none : y.solo.context ≡ None = no_context x.setting y.solo out.away (sounds x.setting x.solo (item ∷ []) u.sound) in
      let low : x.solo.next_vector ≤ y.solo.next_vector = (spends x.setting x.solo (item ∷ [])).never_back in
      let start : b.next_vector ≤ x.solo.next_vector =
      subst (λ (o : Solo). b.next_vector ≤ o.next_vector) (sym h.state) (spends x.setting b seen).never_back in
      let past : length x.setting.vectors ≤ x.solo.next_vector = past_end x.setting.vectors x.solo.next_vector out.none in
      record {
        all = All-append (Ahead b) first rest (kind.ahead x.setting b (seen ++ item ∷ []) h.used)
            (All-weaker (Ahead y.solo) (Ahead b) (λ m a.
            let high = kind.gone y.solo m out.away none a in kind.later b m (omega (arith, high, low, start))) rest after.all);
        pairs = pairs_append before first rest (kind.once x.setting b (seen ++ item ∷ []) h.used) after.pairs
            (All-weaker (λ k. place k < length x.setting.vectors) (λ k. All (before k) rest)
            (λ k lt. All-weaker (Ahead y.solo) (before k) (λ m a.
            let high = kind.gone y.solo m out.away none a in kind.apart k m (omega (arith, high, low, past, lt))) rest after.all) first
            (kind.below x.setting b (seen ++ item ∷ []) h.sound));
      }

  pub fresh_on : (x : SubscriberView) (b : Solo) (seen : List Item) (acts : List OwnAct) → IsInUseAt x → IsStretch x b seen
      → AreFresh before Ahead b (along f x.setting b seen ++ Rest x acts)
  fresh_on x b seen [] u h =
      subst (AreFresh before Ahead b) (sym (append-nil (along f x.setting b seen)))
      (record { all = kind.ahead x.setting b seen h.used; pairs = kind.once x.setting b seen h.used })
  fresh_on x b seen (OwnProfile p ∷ acts) u h = fresh_on x b seen acts u h
  fresh_on x b seen (OwnVector v ∷ acts) u h =
      either (λ (y : SubscriberView). AreFresh before Ahead b (along f x.setting b seen ++ Rest y acts)) (is_stocked x)
      (fresh_on x b seen acts u h)
      (subst (λ (zs : List A). AreFresh before Ahead b (zs ++ Rest (with_given v x) acts)) (along_longer f v x.setting b seen h.on)
      (fresh_on (with_given v x) b seen acts (used_given v x u) (stretch_given v x b seen h)))
  fresh_on x b seen (OwnItem item ∷ acts) u h =
      let y : SubscriberView = subscriber_after x item in
      let used : IsInUseAt y = used_item stays sounds clocks x item u in
      subst (AreFresh before Ahead b) (with_step x b seen item (Rest y acts) h) (elim (splits x.setting x.solo item u.sound) [
        | inl on ↦ fresh_on y b (seen ++ item ∷ []) acts used (stretch_item x b seen item h on)
        | inr out ↦ cut x b seen item (Rest y acts) u h out (fresh_on y y.solo [] acts used (stretch_begun y used))
      ])

-- ---- the three kinds

-- where no context stands what lies ahead is of the next vector or a later one
gone_ahead : (next : Context → ℕ) (y : Solo) (m : Mark) → y.phase ≡ Deregistered → y.context ≡ None → IsAhead next y m
    → y.next_vector ≤ m.place
gone_ahead next y m away none a = elim a [
  | inl q ↦ absurd (subst (λ (o : Option Context). IsOfContext next o m) none q)
  | inr high ↦ subst (λ (p : Phase). next_place p y.next_vector ≤ m.place) away high
]

module _ (sends : SendsAhead) (once : SendsOnce) (orders : SendsInOrder) where
  sent_along : (s : Setting) (solo : Solo) (items : List Item) → along sent_marks_at s solo items ≡ sent_marks s solo items
  sent_along s solo [] = refl
  sent_along s solo (item ∷ items) =
      let d = solo_step s solo item in ap (λ (ms : List Mark). marks_of d.sent ++ ms) (sent_along s d.solo items)

  under_vectors : (vs : List Vector) (ms : List Mark) (forms : List (List ℕ)) → AllZip (IsFormUnder vs) ms forms
      → All (λ m. m.place < length vs) ms
  under_vectors vs [] forms h = All-nil (λ m. m.place < length vs)
  under_vectors vs (m ∷ ms) [] h = absurd h
  under_vectors vs (m ∷ ms) (form ∷ forms) h =
      All-cons (λ (k : Mark). k.place < length vs) m ms (slice_get_within vs m.place h.0.0 h.0.3) (under_vectors vs ms forms h.1)

  pub sent_kind : IsFreshKind sent_marks_at IsBefore (IsAhead next_down) (λ (m : Mark). m.place)
  sent_kind = record {
    ahead = λ s b items h. subst (All (IsAhead next_down b)) (sym (sent_along s b items)) (sends s b items h);
    once = λ s b items h. subst (AllPairs IsBefore) (sym (sent_along s b items)) (once s b items h);
    below = λ s b items h.
        subst (All (λ (m : Mark). m.place < length s.vectors)) (sym (sent_along s b items))
        (under_vectors s.vectors (sent_marks s b items) _ (orders s b items h));
    gone = gone_ahead next_down;
    later = λ b m high. let low = floor_le b.phase b.next_vector in inr (omega (arith, low, high));
    apart = λ k m lt. inl lt;
  }

module _ (accepts : AcceptsAhead) (once : AcceptsOnce) (sounds : StaysSound) where
  accepted_along : (s : Setting) (solo : Solo) (items : List Item) → along accepted_marks_at s solo items ≡ accepted_marks s solo items
  accepted_along s solo [] = refl
  accepted_along s solo (item ∷ items) =
      let d = solo_step s solo item in
      ap (λ (ms : List Mark). option_to_list d.accepted ++ ms) (accepted_along s d.solo items)

  of_context : (phase : Phase) (vs : List Vector) (o : Option Context) (under : Option Mark) → HasContext phase vs o → AcceptedBy o under
      → All (λ (m : Mark). m.place < length vs) (option_to_list under)
  of_context phase vs o None h own = All-nil (λ (m : Mark). m.place < length vs)
  of_context phase vs None (Some m) h own = absurd own
  of_context phase vs (Some x) (Some m) h own =
      All-cons (λ (k : Mark). k.place < length vs) m [] (subst (λ (p : ℕ). p < length vs) (sym own) (placed phase vs x h))
      (All-nil (λ (k : Mark). k.place < length vs))

  accepted_below : (s : Setting) (b : Solo) (items : List Item) → IsSound s b
      → All (λ (m : Mark). m.place < length s.vectors) (along accepted_marks_at s b items)
  accepted_below s b [] h = All-nil (λ (m : Mark). m.place < length s.vectors)
  accepted_below s b (item ∷ items) h =
      let d = solo_step s b item in
      All-append (λ (m : Mark). m.place < length s.vectors) (option_to_list d.accepted) (along accepted_marks_at s d.solo items)
      (of_context b.phase s.vectors b.context d.accepted h.context (accepted_by_own s b item))
      (accepted_below s d.solo items (sounds s b (item ∷ []) h))

  pub accepted_kind : IsFreshKind accepted_marks_at IsBefore (IsAhead next_up) (λ (m : Mark). m.place)
  accepted_kind = record {
    ahead = λ s b items h. subst (All (IsAhead next_up b)) (sym (accepted_along s b items)) (accepts s b items h);
    once = λ s b items h. subst (AllPairs IsBefore) (sym (accepted_along s b items)) (once s b items h);
    below = accepted_below;
    gone = gone_ahead next_up;
    later = λ b m high. let low = floor_le b.phase b.next_vector in inr (omega (arith, low, high));
    apart = λ k m lt. inl lt;
  }

abbrev IsOpen : Solo → ℕ → Type 0
IsOpen b place = next_place b.phase b.next_vector ≤ place

-- none, or one that is in the list
one_if : (vs : List Vector) (b : Bool) (place : ℕ) → place < length vs → All (λ (p : ℕ). p < length vs) (cond b [] (place ∷ []))
one_if vs true place lt = All-nil (λ (p : ℕ). p < length vs)
one_if vs false place lt = All-cons (λ (p : ℕ). p < length vs) place [] lt (All-nil (λ (p : ℕ). p < length vs))

module _ (makes : MakesAhead) (once : MakesOnce) (sounds : StaysSound) where
  made_along : (s : Setting) (solo : Solo) (items : List Item) → along places_made_at s solo items ≡ places_made s solo items
  made_along s solo [] = refl
  made_along s solo (item ∷ items) =
      let d = solo_step s solo item in
      ap (λ (ps : List ℕ). place_made solo.context d.solo.context (marks_of d.sent) ++ ps) (made_along s d.solo items)

  one_made : (phase : Phase) (vs : List Vector) (before after : Option Context) (marks : List Mark) → HasContext phase vs after
      → All (λ place. place < length vs) (place_made before after marks)
  one_made phase vs before None marks h = All-nil (λ place. place < length vs)
  one_made phase vs None (Some y) marks h =
      All-cons (λ place. place < length vs) y.place [] (placed phase vs y h) (All-nil (λ place. place < length vs))
  one_made phase vs (Some x) (Some y) marks h =
      one_if vs ((x.place == y.place) && not (counts_anew x marks)) y.place (placed phase vs y h)

  made_below : (s : Setting) (b : Solo) (items : List Item) → IsSound s b → All (λ place. place < length s.vectors) (along places_made_at s b items)
  made_below s b [] h = All-nil (λ place. place < length s.vectors)
  made_below s b (item ∷ items) h =
      let d = solo_step s b item in
      let after : IsSound s d.solo = sounds s b (item ∷ []) h in
      All-append (λ place. place < length s.vectors) (place_made b.context d.solo.context (marks_of d.sent)) (along places_made_at s d.solo items)
      (one_made d.solo.phase s.vectors b.context d.solo.context (marks_of d.sent) after.context)
      (made_below s d.solo items after)

  pub made_kind : IsFreshKind places_made_at ◌<◌ IsOpen (λ (place : ℕ). place)
  made_kind = record {
    ahead = λ s b items h. subst (All (IsOpen b)) (sym (made_along s b items)) (makes s b items h);
    once = λ s b items h. subst (AllPairs ◌<◌) (sym (made_along s b items)) (once s b items h);
    below = made_below;
    gone = λ y place away none high. subst (λ (p : Phase). next_place p y.next_vector ≤ place) away high;
    later = λ b place high. let low = floor_le b.phase b.next_vector in omega (arith, low, high);
    apart = λ k m lt. lt;
  }

-- ---- who is provisioned, and who isn't yet

module _ (splits : GoesOnOrRanOut) (stays : StaysInUse) (sounds : StaysSound) (clocks : StaysClocked) (spends : VectorsOverRuns)
    (sends : IsFreshKind sent_marks_at IsBefore (IsAhead next_down) (λ (m : Mark). m.place))
    (accepts : IsFreshKind accepted_marks_at IsBefore (IsAhead next_up) (λ (m : Mark). m.place))
    (makes : IsFreshKind places_made_at ◌<◌ IsOpen (λ (place : ℕ). place)) (begun : (s : Setting) → IsInUseAt (record { setting = s; solo = fresh_solo })) where
  pub fresh_of : (n : Network) (slot : ℕ) (x : SubscriberView) (acts : List OwnAct) → IsInUseAt x → IsFreshOver n slot (Some x) acts
  fresh_of n slot x acts u =
      let start = stretch_begun x u in
      let sent = fresh_on splits stays sounds clocks spends n slot sends x x.solo [] acts u start in
      let accepted = fresh_on splits stays sounds clocks spends n slot accepts x x.solo [] acts u start in
      let made = fresh_on splits stays sounds clocks spends n slot makes x x.solo [] acts u start in
      record {
        sent_ahead = sent.all;
        sent_once = sent.pairs;
        accepted_ahead = accepted.all;
        accepted_once = accepted.pairs;
        made_ahead = made.all;
        made_once = made.pairs;
      }

  -- nothing is gathered until it begins
  pub fresh_over : (n : Network) (slot : ℕ) (x : Option SubscriberView) (acts : List OwnAct) → ((y : SubscriberView) → x ≡ Some y → IsInUseAt y)
      → IsFreshOver n slot x acts
  fresh_over n slot (Some x) acts u = fresh_of n slot x acts (u x refl)
  fresh_over n slot None [] u = record {
    sent_ahead = All-nil (IsAheadOf next_down None);
    sent_once = no_pairs IsBefore;
    accepted_ahead = All-nil (IsAheadOf next_up None);
    accepted_once = no_pairs IsBefore;
    made_ahead = All-nil (λ place. 0 ≤ place);
    made_once = no_pairs ◌<◌;
  }
  fresh_over n slot None (OwnItem item ∷ acts) u = let h = fresh_over n slot None acts u in record {
    sent_ahead = h.sent_ahead;
    sent_once = h.sent_once;
    accepted_ahead = h.accepted_ahead;
    accepted_once = h.accepted_once;
    made_ahead = h.made_ahead;
    made_once = h.made_once;
  }
  fresh_over n slot None (OwnVector v ∷ acts) u = let h = fresh_over n slot None acts u in record {
    sent_ahead = h.sent_ahead;
    sent_once = h.sent_once;
    accepted_ahead = h.accepted_ahead;
    accepted_once = h.accepted_once;
    made_ahead = h.made_ahead;
    made_once = h.made_once;
  }
  fresh_over n slot None (OwnProfile p ∷ acts) u =
      let h = fresh_of n slot (fresh_subscriber n slot p) acts (begun (fresh_subscriber n slot p).setting) in
      record {
        sent_ahead = λ k d lt. tt;
        sent_once = h.sent_once;
        accepted_ahead = λ k d lt. tt;
        accepted_once = h.accepted_once;
        made_ahead = h.made_ahead;
        made_once = h.made_once;
      }
