-- Over a run, who was deregistered and is past the proof was challenged, gave the response and completed the security mode.
use Rattle.std.proofs.Common.{◌≡◌, ◌≢◌, ℕ, ◌-◌, true, false, List, [], ◌∷◌, ◌++◌, Some, slice_get, Ok, refl, sym, subst, ap, ◌∙◌, arith}
use Rattle.std.proofs.lemmas.List.Elements.{All-weaker}
use Rattle.std.proofs.lemmas.Option.{same_Some}
use Rattle.identity_slots.specs.declared.profile.Vector.{Vector}
use Rattle.eps_keys.specs.Eia2.{eia2}
use Rattle.nas_messages.specs.declared.protection.SecurityHeader.TheVariants.{NewContextCiphered}
use Rattle.nas_security.specs.Accepting.{accepted}
use Rattle.s1ap_pdus.specs.declared.pdu.Pdu.{Pdu}
use Rattle.s1ap_pdus.specs.Pdus.{decoded}
use Rattle.mme_types.specs.declared.octets.Answer.{Answer}
use Rattle.mme_types.specs.Events.{Item}
use Rattle.emm_state.specs.declared.setting.Setting.{Setting}
use Rattle.emm_state.specs.declared.solo.Context.{Context}
use Rattle.emm_state.specs.declared.solo.Phase.{Phase}
use Rattle.emm_state.specs.declared.solo.Phase.TheVariants.{Deregistered, Authenticating, SecurityMode}
use Rattle.emm_state.specs.declared.solo.Solo.{Solo}
use Rattle.emm_machine.specs.Steps.{solo_after, solo_step}
use Rattle.laws_subscriber.specs.Keys.{GoesToTheProved, HasKeyOf, KeysByProof, has_radio_key}
use Rattle.laws_subscriber.specs.Proof.{Challenges, Completes, IsProved, NeverDeregistered, RegisteredByProof, Responds}
use Rattle.laws_subscriber.specs.Sound.{HasContext, IsOfVector, IsSound, is_past_proof}
use Rattle.laws_subscriber.proofs.Parts.{Away, Challenged, CompletesUnder, Moves, Part, Past, Securing, challenged, clash, completed, is_same_part, leaves, part_of, place_of, responded, stays}
use Rattle.laws_subscriber.proofs.PartRows.{SameIsEqual, moves_step}
use Rattle.laws_subscriber.proofs.Saying.{keyed_context}
use Rattle.laws_subscriber.proofs.SoundRows.{WholeIsFresh, done_step}
use Rattle.laws_subscriber.proofs.SoundRuns.{WhatIsEncoded, keys_go_to_the_proved, stays_sound}

-- ---- phases and parts

past_proof : (phase : Phase) → part_of phase ≡ Past → is_past_proof phase ≡ true
past_proof Deregistered e = cc
past_proof Authenticating e = cc
past_proof SecurityMode e = cc
past_proof _ e = refl

past_part : (phase : Phase) → is_past_proof phase ≡ true → part_of phase ≡ Past
past_part Deregistered e = cc
past_part Authenticating e = cc
past_part SecurityMode e = cc
past_part _ e = refl

securing_phase : (phase : Phase) → part_of phase ≡ Securing → phase ≡ SecurityMode
securing_phase SecurityMode e = refl
securing_phase _ e = cc

not_away : {part : Part} (phase : Phase) → part_of phase ≡ part → is_same_part part Away ≡ false → phase ≢ Deregistered
not_away phase e differ is = clash e (ap part_of is) differ

-- ---- what is still to come of the proof

-- after the response
record IsCompleting (s : Setting) (b : Solo) (items : List Item) (v : Vector) : Type 0 where
  waiting : List Item
  completion : Item
  rest : List Item
  whole : items ≡ waiting ++ completion ∷ rest
  completes : Completes v completion
  throughout : NeverDeregistered s b items

-- after the challenge
record IsResponding (s : Setting) (b : Solo) (items : List Item) (v : Vector) : Type 0 where
  between : List Item
  response : Item
  waiting : List Item
  completion : Item
  rest : List Item
  whole : items ≡ between ++ response ∷ waiting ++ completion ∷ rest
  responds : Responds v response
  completes : Completes v completion
  throughout : NeverDeregistered s b items

-- how a run can end past the proof with the vector at a place
data Ends (s : Setting) (b : Solo) (items : List Item) (place : ℕ) : Type 0 where
  proved : IsProved s b items place → Ends s b items place
  responding : (v : Vector) → part_of b.phase ≡ Challenged → place ≡ b.next_vector - 1 → slice_get s.vectors place ≡ Some v
      → IsResponding s b items v → Ends s b items place
  completing : (v : Vector) → part_of b.phase ≡ Securing → place_of b.context ≡ Some place → slice_get s.vectors place ≡ Some v
      → IsCompleting s b items v → Ends s b items place
  staying : part_of b.phase ≡ Past → place_of b.context ≡ Some place → NeverDeregistered s b items → Ends s b items place

-- what is under a vector's context is under its key
completes_by : (vectors : List Vector) (x : Context) (v : Vector) (item : Item) → IsOfVector vectors x v → CompletesUnder x item
    → Completes v item
completes_by vectors x v item of c = (
  c.0,
  c.1,
  c.2,
  x.security.up_last,
  c.3,
  subst (λ (key : List ℕ). accepted (eia2 key) x.security.up_last (NewContextCiphered ∷ []) c.0 ≡ Ok (c.2, c.1)) of.integrity c.4,
  c.5,
)

-- the vector of the context in security mode
vector_of : (s : Setting) (b : Solo) (x : Context) → IsSound s b → part_of b.phase ≡ Securing → b.context ≡ Some x
    → (v : Vector) × IsOfVector s.vectors x v
vector_of s b x h part is =
    let c : HasContext SecurityMode s.vectors b.context =
    subst (λ (p : Phase). HasContext p s.vectors b.context) (securing_phase b.phase part) h.context in
    (c.1, subst (λ (y : Context). IsOfVector s.vectors y c.1) (same_Some c.0 x (sym c.2 ∙ is)) c.3)

-- one step before
back : (s : Setting) (b : Solo) (item : Item) (items : List Item) (place : ℕ) → IsSound s b → Moves s b item (solo_step s b item)
    → Ends s (solo_step s b item).solo items place → Ends s b (item ∷ items) place
back s b item items place h m (proved q) =
    proved (record {
      vector = q.vector;
      there = q.there;
      before = item ∷ q.before;
      challenge = q.challenge;
      between = q.between;
      response = q.response;
      waiting = q.waiting;
      completion = q.completion;
      since = q.since;
      whole = ap (λ (l : List Item). item ∷ l) q.whole;
      challenged = q.challenged;
      responded = q.responded;
      completed = q.completed;
      throughout = q.throughout;
    })
back s b item items place h (stays k) (responding v part next there r) =
    responding v (sym k.part ∙ part) (next ∙ ap (λ (n : ℕ). n - 1) k.next) there (record {
      between = item ∷ r.between;
      response = r.response;
      waiting = r.waiting;
      completion = r.completion;
      rest = r.rest;
      whole = ap (λ (l : List Item). item ∷ l) r.whole;
      responds = r.responds;
      completes = r.completes;
      throughout = (not_away (solo_step s b item).solo.phase part refl, r.throughout);
    })
back s b item items place h (stays k) (completing v part at there c) =
    completing v (sym k.part ∙ part) (sym k.place ∙ at) there (record {
      waiting = item ∷ c.waiting;
      completion = c.completion;
      rest = c.rest;
      whole = ap (λ (l : List Item). item ∷ l) c.whole;
      completes = c.completes;
      throughout = (not_away (solo_step s b item).solo.phase part refl, c.throughout);
    })
back s b item items place h (stays k) (staying part at never) =
    staying (sym k.part ∙ part) (sym k.place ∙ at) (not_away (solo_step s b item).solo.phase part refl, never)
back s b item items place h (leaves gone) (responding v part next there r) = absurd (clash gone part refl)
back s b item items place h (leaves gone) (completing v part at there c) = absurd (clash gone part refl)
back s b item items place h (leaves gone) (staying part at never) = absurd (clash gone part refl)
back s b item items place h (challenged taken w part_now next_now there_now sent) (responding v part next there r) =
    let same : taken ≡ place = omega arith in
    let vector : w ≡ v = same_Some w v (sym (subst (λ (q : ℕ). slice_get s.vectors q ≡ Some w) same there_now) ∙ there) in
    proved (record {
      vector = v;
      there = there;
      before = [];
      challenge = item;
      between = r.between;
      response = r.response;
      waiting = r.waiting;
      completion = r.completion;
      since = r.rest;
      whole = ap (λ (l : List Item). item ∷ l) r.whole;
      challenged = subst (λ (y : Vector). Challenges place y (solo_step s b item)) vector (subst (λ (q : ℕ). Challenges q w (solo_step s b item)) same sent);
      responded = r.responds;
      completed = r.completes;
      throughout = (not_away (solo_step s b item).solo.phase part refl, subst (NeverDeregistered s (solo_step s b item).solo) r.whole r.throughout);
    })
back s b item items place h (challenged taken w part_now next_now there_now sent) (completing v part at there c) =
    absurd (clash part_now part refl)
back s b item items place h (challenged taken w part_now next_now there_now sent) (staying part at never) =
    absurd (clash part_now part refl)
back s b item items place h (responded w part_before part_now there_now responds at_now) (responding v part next there r) =
    absurd (clash part_now part refl)
back s b item items place h (responded w part_before part_now there_now responds at_now) (completing v part at there c) =
    let same : place ≡ b.next_vector - 1 = same_Some place (b.next_vector - 1) (sym at ∙ at_now) in
    let vector : w ≡ v = same_Some w v (sym there_now ∙ subst (λ (q : ℕ). slice_get s.vectors q ≡ Some v) same there) in
    responding v part_before same there (record {
      between = [];
      response = item;
      waiting = c.waiting;
      completion = c.completion;
      rest = c.rest;
      whole = ap (λ (l : List Item). item ∷ l) c.whole;
      responds = subst (λ (y : Vector). Responds y item) vector responds;
      completes = c.completes;
      throughout = (not_away (solo_step s b item).solo.phase part refl, c.throughout);
    })
back s b item items place h (responded w part_before part_now there_now responds at_now) (staying part at never) =
    absurd (clash part_now part refl)
back s b item items place h (completed x part_before part_now is completes at_now) (responding v part next there r) =
    absurd (clash part_now part refl)
back s b item items place h (completed x part_before part_now is completes at_now) (completing v part at there c) =
    absurd (clash part_now part refl)
back s b item items place h (completed x part_before part_now is completes at_now) (staying part at never) =
    let same : x.place ≡ place = same_Some x.place place (sym at_now ∙ at) in
    let v = vector_of s b x h part_before is in
    completing v.0 part_before (ap place_of is ∙ ap Some same) (subst (λ (q : ℕ). slice_get s.vectors q ≡ Some v.0) same v.1.there)
    (record {
      waiting = [];
      completion = item;
      rest = items;
      whole = refl;
      completes = completes_by s.vectors x v.0 item v.1 completes;
      throughout = (not_away (solo_step s b item).solo.phase part refl, never);
    })

ends : WholeIsFresh → SameIsEqual → (s : Setting) (b : Solo) (items : List Item) → IsSound s b
    → part_of (solo_after s b items).phase ≡ Past
    → (place : ℕ) × (place_of (solo_after s b items).context ≡ Some place) × Ends s b items place
ends whole equal s b [] h past =
    let c = keyed_context b.phase s.vectors b.context (past_proof b.phase past) h.context in (c.0.place, ap place_of c.2, staying past (ap place_of c.2) tt)
ends whole equal s b (item ∷ items) h past =
    let r = ends whole equal s (solo_step s b item).solo items (done_step whole s b item h).sound past in
    (r.0, r.1, back s b item items r.0 h (moves_step equal s b item) r.2)

-- who began deregistered has the whole proof before it
from_away : (s : Setting) (b : Solo) (items : List Item) (place : ℕ) → b.phase ≡ Deregistered → Ends s b items place
    → IsProved s b items place
from_away s b items place is (proved q) = q
from_away s b items place is (responding v part next there r) = absurd (clash (ap part_of is) part refl)
from_away s b items place is (completing v part at there c) = absurd (clash (ap part_of is) part refl)
from_away s b items place is (staying part at never) = absurd (clash (ap part_of is) part refl)

pub registered_by_proof : WholeIsFresh → SameIsEqual → RegisteredByProof
registered_by_proof whole equal s b items h is past =
    let a = solo_after s b items in
    let r = ends whole equal s b items h (past_part a.phase past) in
    let c = keyed_context a.phase s.vectors a.context past (stays_sound whole s b items h).context in
    let same : c.0.place ≡ r.0 = same_Some c.0.place r.0 (sym (ap place_of c.2) ∙ r.1) in
    (c.0, c.2, subst (IsProved s b items) (sym same) (from_away s b items r.0 is r.2))

-- ---- radio keys

after_more : (s : Setting) (b : Solo) (items : List Item) (item : Item)
    → solo_after s b (items ++ item ∷ []) ≡ (solo_step s (solo_after s b items) item).solo
after_more s b [] item = refl
after_more s b (i ∷ items) item = after_more s (solo_step s b i).solo items item

goes_by_proof : (whole : WholeIsFresh) (equal : SameIsEqual) (s : Setting) (b : Solo) (items : List Item) (item : Item)
    → IsSound s b → b.phase ≡ Deregistered
    → (a : Answer) (m : Pdu (List ℕ)) → GoesToTheProved (solo_step s (solo_after s b items) item).solo a m
    → (x : Context) × ((solo_after s b (items ++ item ∷ [])).context ≡ Some x) × HasKeyOf x m
    × IsProved s b (items ++ item ∷ []) x.place
goes_by_proof whole equal s b items item h is a m g =
    let same = after_more s b items item in
    let r =
    registered_by_proof whole equal s b (items ++ item ∷ []) h is
    (subst (λ (z : Solo). is_past_proof z.phase ≡ true) (sym same) g.proved) in
    let context : g.context ≡ r.0 = same_Some g.context r.0 (sym g.kept ∙ sym (ap (λ (z : Solo). z.context) same) ∙ r.1) in
    (r.0, r.1, subst (λ (y : Context). HasKeyOf y m) context g.key, r.2)

pub keys_by_proof : WholeIsFresh → WhatIsEncoded → SameIsEqual → KeysByProof
keys_by_proof whole what equal s b items item h is =
    let c = solo_after s b items in
    let d = solo_step s c item in
    All-weaker (λ a. (m : Pdu (List ℕ)) → decoded a.octets ≡ Ok m → has_radio_key m ≡ true → GoesToTheProved d.solo a m)
    (λ a. (m : Pdu (List ℕ)) → decoded a.octets ≡ Ok m → has_radio_key m ≡ true
    → (x : Context) × ((solo_after s b (items ++ item ∷ [])).context ≡ Some x) × HasKeyOf x m
    × IsProved s b (items ++ item ∷ []) x.place)
    (λ a g m read key. goes_by_proof whole equal s b items item h is a m (g m read key)) d.sent
    (keys_go_to_the_proved whole what s c item (stays_sound whole s b items h))
