-- The capability that SECURITY MODE COMMAND replays is that of the last ATTACH REQUEST.
use Rattle.std.proofs.Common.{◌≡◌, ◌⊎◌, ℕ, Bool, true, false, cond, inl, inr, List, [], ◌∷◌, ◌++◌, All, filter, Option, Some, None, Ok, refl, sym, ◌∙◌, ap, subst, append-nil, true≢false}
use Rattle.std.specs.Prelude.{get_or}
use Rattle.std.proofs.lemmas.List.{append_assoc}
use Rattle.std.proofs.lemmas.List.Elements.{All-cons, All-nil, All-push}
use Rattle.std.proofs.lemmas.Result.{IfOk-at_ok}
use Rattle.identity_slots.specs.declared.profile.Vector.{Vector}
use Rattle.s1ap_pdus.specs.declared.pdu.Pdu.{Pdu}
use Rattle.s1ap_pdus.specs.Pdus.{decoded, encoded}
use Rattle.nas_messages.specs.declared.protection.SecurityHeader.{SecurityHeader}
use Rattle.nas_messages.specs.declared.protection.SecurityHeader.TheVariants.{IntegrityProtected, IntegrityProtectedCiphered, NewContext, NewContextCiphered}
use Rattle.nas_security.specs.Protecting.{protected_by}
use Rattle.mme_types.specs.declared.octets.Answer.{Answer}
use Rattle.mme_types.specs.declared.octets.Mark.{Mark}
use Rattle.mme_types.specs.Events.{Item, Message}
use Rattle.mme_signalling.specs.Messages.{security_mode_command}
use Rattle.emm_state.specs.declared.draft.Sealed.{Sealed}
use Rattle.emm_state.specs.declared.setting.Setting.{Setting}
use Rattle.emm_state.specs.declared.solo.Context.{Context}
use Rattle.emm_state.specs.declared.solo.Phase.{Phase}
use Rattle.emm_state.specs.declared.solo.Phase.TheVariants.{Deregistered, Authenticating, SecurityMode}
use Rattle.emm_state.specs.declared.solo.Protection.TheVariants.{Under}
use Rattle.emm_state.specs.declared.solo.Repeat.{Repeat}
use Rattle.emm_state.specs.declared.solo.Repeat.TheVariants as repeats
use Rattle.emm_state.specs.declared.solo.Solo.{Solo}
use Rattle.emm_state.specs.Actions.{mac_of}
use Rattle.emm_machine.specs.Connected.{struck}
use Rattle.emm_machine.specs.Steps.{solo_after, solo_step}
use Rattle.laws_subscriber.specs.Marked.{AreFormsUnder, IsMarked, SendsMarked, nas_within, protected_within}
use Rattle.laws_subscriber.specs.Proof.{uplink_nas}
use Rattle.laws_subscriber.specs.Sound.{StaysSound, has_security_header}
use Rattle.laws_subscriber.specs.Unproved.{begins_attach}
use Rattle.laws_mme.specs.Attaches.{attach_leaves}
use Rattle.laws_mme.specs.Holds.{Any, IsSealed, KeepsState, Says, sent_holds, state_holds, step_holds}
use Rattle.laws_mme.specs.Premises.{AsksToAttach, MayAwait, MayChallenge, MayProtect, is_under_way}
use Rattle.laws_mme.specs.Bidding.{CommandsReplay, IsAskedWith, Replays, ReplaysIfCommand, has_new_context_header}
use Rattle.laws_mme.proofs.Wire.{ciphered_is_not_new, in_downlink, in_setup_with, in_use_is_not_new, of_one, plain_is_not_new, protected_is_not_new}

-- ---- what stands of a challenge

-- a challenge is out, or its security mode is to be completed
is_challenged : Phase → Bool
is_challenged Authenticating = true
is_challenged SecurityMode = true
is_challenged _ = false

-- while it is, what the phone asked with is such a capability; and SECURITY MODE COMMAND to be sent again has one
record Stands (C : List ℕ → Type 0) (x : Solo) : Type 0 where
  challenged : is_challenged x.phase ≡ true → C x.asked.capability
  command : (nas : List ℕ) → x.repeat ≡ Some (repeats.Nas (Under NewContext) nas)
      → (capability : List ℕ) × C capability × (ksi : ℕ) × (nas ≡ security_mode_command ksi capability)

-- what is awaited is a command, or has another header
awaited : {C : List ℕ → Type 0} {solo : Solo} {item : Item} (header : SecurityHeader) (nas other : List ℕ) (x : Solo)
    → MayAwait solo x item header nas → Stands C x
    → ◌≡◌ {A = Option Repeat} (Some (repeats.Nas (Under header) nas)) (Some (repeats.Nas (Under NewContext) other))
    → (capability : List ℕ) × C capability × (ksi : ℕ) × (other ≡ security_mode_command ksi capability)
unfolding is_challenged
awaited header nas other x may g is = elim may [
  | inl in_use ↦
      let clash : ◌≡◌ {A = Option Repeat} (Some (repeats.Nas (Under IntegrityProtectedCiphered) nas)) (Some (repeats.Nas (Under NewContext) other)) =
      ap (λ (h : SecurityHeader). Some (repeats.Nas (Under h) nas)) (sym in_use) ∙ is in
      absurd (cc clash)
  | inr asks ↦
      let same : nas ≡ other = cc in
      (x.asked.capability, g.challenged (ap is_challenged asks.phase), asks.ksi, sym same ∙ asks.command)
]

under_way : (phase : Phase) → is_under_way phase ≡ true → is_challenged phase ≡ true → ⊥
unfolding is_challenged
under_way Authenticating h is = absurd (cc h)
under_way SecurityMode h is = absurd (cc h)
under_way _ h is = absurd (cc is)

struck_same : (station : ℕ) (repeat : Option Repeat) (nas : List ℕ) → struck station repeat ≡ Some (repeats.Nas (Under NewContext) nas)
    → repeat ≡ Some (repeats.Nas (Under NewContext) nas)
struck_same station None nas is = absurd (cc is)
struck_same station (Some (repeats.Nas protection kept)) nas is = is
struck_same station (Some (repeats.Paging es)) nas is = absurd (cc is)

-- a message on an association asks for no attach, nor does a tick
carried_attach : (item : Item) (nas : List ℕ) → uplink_nas item ≡ Some nas → begins_attach item ≡ true → ⊥
carried_attach (Message m) nas carried begins = absurd (cc begins)
carried_attach _ nas carried begins = absurd (cc carried)

-- ---- what is sent under a mark

abbrev IfMarked : List Item → Answer → Type 0
IfMarked items a = (mark : Mark) → a.under ≡ Some mark → ReplaysIfCommand items a

-- a command in its form is one
replays_form : (items : List Item) (x : Context) (capability : List ℕ) (ksi : ℕ) → IsAskedWith items capability
    → Replays items (protected_by (mac_of x) x.security.down_next NewContext (security_mode_command ksi capability))
unfolding protected_by
replays_form items x capability ksi asked =
    record { capability = capability; asked = asked; ksi = ksi; mac = _; sequence = _; form = refl }

module _ (written : (m : Pdu (List ℕ)) (os : List ℕ) → encoded m ≡ Some os → decoded os ≡ Ok m) (items : List Item) where
  -- under that header there is a command
  abbrev pub MayBe : SecurityHeader → List ℕ → Type 0
  MayBe header nas =
      header ≡ NewContext
      → (capability : List ℕ) × IsAskedWith items capability × (ksi : ℕ) × (nas ≡ security_mode_command ksi capability)

  command_so : (x : Context) (nas : List ℕ) → MayBe NewContext nas
      → Replays items (protected_by (mac_of x) x.security.down_next NewContext nas)
  command_so x nas may =
      let command = may refl in
      subst (λ (n : List ℕ). Replays items (protected_by (mac_of x) x.security.down_next NewContext n)) (sym command.3)
      (replays_form items x command.0 command.2 command.1)

  -- a form hasn't that header, or it is a command
  under_so : (header : SecurityHeader) (x : Context) (nas : List ℕ) → MayBe header nas
      → has_new_context_header (protected_by (mac_of x) x.security.down_next header nas) ≡ true
      → Replays items (protected_by (mac_of x) x.security.down_next header nas)
  under_so NewContext x nas may is = command_so x nas may
  under_so IntegrityProtected x nas may is =
      absurd (true≢false (sym is ∙ protected_is_not_new (mac_of x) x.security.down_next nas))
  under_so IntegrityProtectedCiphered x nas may is =
      absurd (true≢false (sym is ∙ in_use_is_not_new (mac_of x) x.security.down_next nas))
  under_so NewContextCiphered x nas may is =
      absurd (true≢false (sym is ∙ ciphered_is_not_new (mac_of x) x.security.down_next nas))

  form_so : (context : Option Context) (header : SecurityHeader) (nas : List ℕ) (sealed : Sealed) → MayBe header nas
      → IsSealed context header nas sealed → has_new_context_header sealed.form ≡ true → Replays items sealed.form
  form_so None header nas sealed may by is =
      let none : has_new_context_header [] ≡ true = ap (λ (z : Sealed). has_new_context_header z.form) (sym by) ∙ is in
      absurd (cc none)
  form_so (Some x) header nas sealed may by is =
      let form : sealed.form ≡ protected_by (mac_of x) x.security.down_next header nas = ap (λ (z : Sealed). z.form) by in
      subst (Replays items) (sym form) (under_so header x nas may (ap has_new_context_header (sym form) ∙ is))

  -- nothing without a mark is looked at
  unmarked : (mark : Mark) → ◌≡◌ {A = Option Mark} None (Some mark) → ⊥
  unmarked mark is = absurd (cc is)

  -- in any state where what is protected may be so
  says_replayed : (s : Setting) (solo : Solo) (item : Item) (Q : Solo → Type 0)
      → ((header : SecurityHeader) (nas : List ℕ) (x : Solo) → MayProtect solo item header nas ⊎ MayAwait solo x item header nas → Q x → MayBe header nas)
      → Says s solo item Q (IfMarked items)
  says_replayed s solo item Q may_be = record {
    plain = λ nas x k may told h at octets is mark under. absurd (unmarked mark under);
    protected = λ header nas x k sealed may told h by at octets is mark under m reads.
        of_one written (λ n. has_new_context_header n ≡ true → Replays items n) _ m octets sealed.form is reads (in_downlink k sealed.form)
        (form_so x.context header nas sealed (may_be header nas x may h) by);
    setup = λ key x k h at octets is mark under. absurd (unmarked mark under);
    setup_with = λ key nas x k sealed told h by at octets is mark under m reads.
        of_one written (λ n. has_new_context_header n ≡ true → Replays items n) _ m octets sealed.form is reads
        (in_setup_with s.network s.profile x.asked.capability k key sealed.form)
        (form_so x.context IntegrityProtectedCiphered nas sealed (λ is. absurd (cc is)) by);
    released = λ cause x k h at octets is mark under. absurd (unmarked mark under);
    refusal = λ m nas from told h octets is mark under. absurd (unmarked mark under);
    turned = λ m from h octets is mark under. absurd (unmarked mark under);
    indication = λ station message from may octets is mark under. absurd (unmarked mark under);
    acknowledged = λ m c x from has h octets is mark under. absurd (unmarked mark under);
    page = λ t es x may given h k d lt octets is mark under. absurd (unmarked mark under);
  }

-- ---- a step at an item that asks for no attach

module _ (s : Setting) (solo : Solo) (item : Item) (C : List ℕ → Type 0)
    (asked : (capability : List ℕ) → AsksToAttach item capability → C capability) (h : Stands C solo) where
  challenged_so : (x : Solo) → MayChallenge solo item x → C x.asked.capability
  unfolding is_challenged
  challenged_so x may = elim may.1 [
    | inl asks ↦ asked x.asked.capability asks
    | inr fails ↦
        subst (λ (y : Solo). C y.asked.capability) (sym fails.1) (h.challenged (ap is_challenged fails.0.challenged))
  ]

  never : {A : Type 0} (nas : List ℕ) → ◌≡◌ {A = Option Repeat} None (Some (repeats.Nas (Under NewContext) nas)) → A
  never nas is = absurd (cc is)

  stands : KeepsState s solo item (Stands C)
  unfolding is_challenged
  stands = record {
    connection = λ c x may g. record { challenged = g.challenged; command = g.command };
    counted = λ n x g. record { challenged = g.challenged; command = g.command };
    context = λ c x g. record { challenged = g.challenged; command = g.command };
    counts = λ procedure reachable x g. record { challenged = g.challenged; command = g.command };
    wiped = λ x g. record { challenged = λ is. absurd (cc is); command = λ nas is. never nas is };
    ended = λ x g. record { challenged = g.challenged; command = λ nas is. never nas is };
    registers = λ reachable x g. record { challenged = λ is. absurd (cc is); command = λ nas is. never nas is };
    updates = λ tai initial x from g. record { challenged = λ is. absurd (cc is); command = λ nas is. never nas is };
    moves_on = λ phase x under g. record { challenged = λ is. absurd (under_way phase under is); command = g.command };
    tmsi = λ x on g. record { challenged = g.challenged; command = g.command };
    bears = λ bearer x may g. record { challenged = g.challenged; command = g.command };
    asks = λ combined capability tai x asks from phase repeat g. record {
      challenged = λ is. asked capability asks;
      command = λ nas is. never nas (sym repeat ∙ is);
    };
    challenges = λ v procedure x there may g. record { challenged = λ is. challenged_so x may; command = λ nas is. absurd (cc is) };
    secures = λ c phase g. record { challenged = λ is. g.challenged (ap is_challenged phase); command = g.command };
    awaits = λ header nas procedure c x may told g. record {
      challenged = g.challenged;
      command = λ other is. awaited header nas other x may g is;
    };
    pages = λ stations procedure is may g. record { challenged = g.challenged; command = λ nas at. absurd (cc at) };
    strikes = λ station x is g. record { challenged = g.challenged; command = λ nas at. g.command nas (struck_same station x.repeat nas at) };
  }

-- ---- the last ATTACH REQUEST

asked_before : (items : List Item) (item : Item) (capability : List ℕ) → begins_attach item ≡ false → IsAskedWith items capability
    → IsAskedWith (items ++ item ∷ []) capability
asked_before items item capability none asked = record {
  front = asked.front;
  request = asked.request;
  since = asked.since ++ item ∷ [];
  whole = ap (λ (is : List Item). is ++ item ∷ []) asked.whole ∙ append_assoc asked.front (asked.request ∷ asked.since) (item ∷ []);
  asks = asked.asks;
  last = All-push (λ i. begins_attach i ≡ false) asked.since item asked.last none;
}

asked_now : (items : List Item) (item : Item) (capability : List ℕ) → AsksToAttach item capability
    → IsAskedWith (items ++ item ∷ []) capability
asked_now items item capability asks = record {
  front = items;
  request = item;
  since = [];
  whole = refl;
  asks = asks;
  last = All-nil (λ i. begins_attach i ≡ false);
}

more_asked : (items : List Item) (item : Item) (x : Solo) → begins_attach item ≡ false → Stands (IsAskedWith items) x
    → Stands (IsAskedWith (items ++ item ∷ [])) x
more_asked items item x none h = record {
  challenged = λ is. asked_before items item x.asked.capability none (h.challenged is);
  command = λ nas is. let c = h.command nas is in (c.0, asked_before items item c.0 none c.1, c.2, c.3);
}

-- ---- one step

-- an item that asks for an attach begins anew
forgotten_stands : (C : List ℕ → Type 0) (x : Solo) → x.phase ≡ Deregistered → x.repeat ≡ None → Stands C x
unfolding is_challenged
forgotten_stands C x phase repeat = record {
  challenged = λ is. absurd (let none : false ≡ true = ap is_challenged (sym phase) ∙ is in cc none);
  command = λ nas is. absurd (let none : ◌≡◌ {A = Option Repeat} None (Some (repeats.Nas (Under NewContext) nas)) = sym repeat ∙ is in cc none);
}

step_stands_by : (b : Bool) (s : Setting) (solo : Solo) (items : List Item) (item : Item) → begins_attach item ≡ b
    → Stands (IsAskedWith items) solo → Stands (IsAskedWith (items ++ item ∷ [])) (solo_step s solo item).solo
unfolding is_challenged
step_stands_by true s solo items item begins h = elim (attach_leaves s solo item begins) [
  | inl forgotten ↦ forgotten_stands _ _ forgotten.phase forgotten.repeat
  | inr taken ↦ record {
    challenged = λ is. subst (IsAskedWith (items ++ item ∷ [])) (sym taken.challenged.asked) (asked_now items item taken.capability taken.asks);
    command = λ nas is. absurd (let other = sym taken.challenged.repeat ∙ is in cc other);
  }
]
step_stands_by false s solo items item none h =
    let before = more_asked items item solo none h in
    state_holds s solo item (stands s solo item (IsAskedWith (items ++ item ∷ [])) (asked_now items item) before) before

module _ (written : (m : Pdu (List ℕ)) (os : List ℕ) → encoded m ≡ Some os → decoded os ≡ Ok m) where
  -- what is protected at a step, by what stands
  may_be : (s : Setting) (solo : Solo) (items : List Item) (item : Item) → Stands (IsAskedWith (items ++ item ∷ [])) solo
      → (header : SecurityHeader) (nas : List ℕ) (x : Solo) → MayProtect solo item header nas ⊎ MayAwait solo x item header nas
      → Stands (IsAskedWith (items ++ item ∷ [])) x → MayBe written (items ++ item ∷ []) header nas
  unfolding is_challenged
  may_be s solo items item h header nas x may g new = elim may [
    | inl protects ↦ elim protects [
      | inl in_use ↦ absurd (let clash = sym in_use ∙ new in cc clash)
      | inr again ↦ h.command nas (again.1 ∙ ap (λ (t : SecurityHeader). Some (repeats.Nas (Under t) nas)) new)
    ]
    | inr awaits ↦ elim awaits [
      | inl in_use ↦ absurd (let clash = sym in_use ∙ new in cc clash)
      | inr asks ↦ (x.asked.capability, g.challenged (ap is_challenged asks.phase), asks.ksi, asks.command)
    ]
  ]

  -- at an ATTACH REQUEST nothing has that header
  none_at_attach : (solo : Solo) (items : List Item) (item : Item) → begins_attach item ≡ true → (header : SecurityHeader) (nas : List ℕ)
      → (x : Solo) → MayProtect solo item header nas ⊎ MayAwait solo x item header nas → MayBe written items header nas
  none_at_attach solo items item begins header nas x may new = elim may [
    | inl protects ↦ elim protects [
      | inl in_use ↦ absurd (let clash = sym in_use ∙ new in cc clash)
      | inr again ↦ absurd (let clash = ap begins_attach (sym again.0) ∙ begins in cc clash)
    ]
    | inr awaits ↦ elim awaits [
      | inl in_use ↦ absurd (let clash = sym in_use ∙ new in cc clash)
      | inr asks ↦ absurd (carried_attach item asks.answer asks.carried begins)
    ]
  ]

  step_replays_by : (b : Bool) (s : Setting) (solo : Solo) (items : List Item) (item : Item) → begins_attach item ≡ b
      → Stands (IsAskedWith items) solo → All (IfMarked (items ++ item ∷ [])) (solo_step s solo item).sent
  step_replays_by true s solo items item begins h =
      sent_holds s solo item
      (says_replayed written (items ++ item ∷ []) s solo item Any
      (λ header nas x may any. none_at_attach solo (items ++ item ∷ []) item begins header nas x may))
  step_replays_by false s solo items item none h =
      let before = more_asked items item solo none h in
      (step_holds s solo item (stands s solo item (IsAskedWith (items ++ item ∷ [])) (asked_now items item) before)
      (says_replayed written (items ++ item ∷ []) s solo item (Stands (IsAskedWith (items ++ item ∷ []))) (may_be s solo items item before))
      before).sent

  -- ---- over a run

  stands_along : (s : Setting) (front : List Item) (solo : Solo) (items : List Item) → Stands (IsAskedWith front) solo
      → Stands (IsAskedWith (front ++ items)) (solo_after s solo items)
  stands_along s front solo [] h = subst (λ (is : List Item). Stands (IsAskedWith is) solo) (sym (append-nil front)) h
  stands_along s front solo (item ∷ items) h =
      subst (λ (is : List Item). Stands (IsAskedWith is) (solo_after s (solo_step s solo item).solo items))
      (append_assoc front (item ∷ []) items)
      (stands_along s (front ++ item ∷ []) (solo_step s solo item).solo items
      (step_stands_by (begins_attach item) s solo front item refl h))

  -- ---- what has no mark has no such header

  plain_by : (b : Bool) (items : List Item) (n : List ℕ) (ns : List (List ℕ)) → has_security_header n ≡ b
      → (cond b (n ∷ filter has_security_header ns) (filter has_security_header ns)) ≡ []
      → (filter has_security_header ns ≡ [] → All (λ m. has_new_context_header m ≡ true → Replays items m) ns)
      → All (λ m. has_new_context_header m ≡ true → Replays items m) (n ∷ ns)
  plain_by true items n ns is none rest = absurd (cc none)
  plain_by false items n ns is none rest =
      All-cons (λ m. has_new_context_header m ≡ true → Replays items m) n ns (λ new. absurd (plain_is_not_new n is new)) (rest none)

  plain_so : (items : List Item) (nas : List (List ℕ)) → filter has_security_header nas ≡ []
      → All (λ n. has_new_context_header n ≡ true → Replays items n) nas
  plain_so items [] none = All-nil (λ n. has_new_context_header n ≡ true → Replays items n)
  plain_so items (n ∷ ns) none = plain_by (has_security_header n) items n ns refl none (λ rest. plain_so items ns rest)

  both_so : (vectors : List Vector) (items : List Item) (a : Answer) (under : Option Mark) → a.under ≡ under → IsMarked vectors a
      → IfMarked items a → ReplaysIfCommand items a
  both_so vectors items a None is marked if_marked m reads =
      let same : marked.0 ≡ m = IfOk-at_ok (λ (x : Pdu (List ℕ)). marked.0 ≡ x) (sym marked.1 ∙ reads) refl in
      let none : protected_within marked.0 ≡ [] = subst (λ (o : Option Mark). AreFormsUnder vectors o (protected_within marked.0)) is marked.2 in
      plain_so items (nas_within m) (ap protected_within (sym same) ∙ none)
  both_so vectors items a (Some mark) is marked if_marked m reads = if_marked mark is m reads

  pub commands_replay : StaysSound → SendsMarked → CommandsReplay
  unfolding is_challenged
  commands_replay sound marked s solo items item h phase repeat =
      let start : Stands (IsAskedWith []) solo = forgotten_stands (IsAskedWith []) solo phase repeat in
      let now = solo_after s solo items in
      let said = step_replays_by (begins_attach item) s now items item refl (stands_along s [] solo items start) in
      let forms : All (IsMarked s.vectors) (solo_step s now item).sent =
      subst (All (IsMarked s.vectors)) (append-nil (solo_step s now item).sent) (marked s now (item ∷ []) (sound s solo items h)) in
      λ i d lt. both_so s.vectors (items ++ item ∷ []) (get_or (solo_step s now item).sent i d) _ refl (forms i d lt) (said i d lt)
