use Rattle.std.proofs.Common.{◌≡◌, length, arith, ap, ◌∙◌, sym, subst, take, ◌+◌, ◌++◌, ◌∷◌, [], length-take}
use Rattle.std.specs.Prelude.{slice_get}
use Rattle.std.proofs.lemmas.List.{take_all, take_more, length_push}
use Rattle.sorted_list.specs.Ordered.{Rising}
use Rattle.stranger_machine.specs.Table.{known_id, stranger_at}
use Rattle.mme_core.specs.Projection.{is_slot, is_station, is_stranger, projection, told}
use Rattle.mme_core.specs.World.{World, events_taken, replies, strangers_in, world_run}
use Rattle.emm_machine.specs.Freshness.{IsInUse}
use Rattle.emm_machine.specs.Steps.{solo_after}
use Rattle.laws_subscriber.specs.Sound.{IsSound}
use Rattle.mme_core.specs.Faults.{HasEachFault}
use Rattle.mme_core.specs.FreshRuns.{AreInUse}
use Rattle.mme_core.proofs.InUse.{in_use_at}
use Rattle.mme_core.proofs.Ending.{ending_run}
use Rattle.mme_core.proofs.Alone.{absent_each, slots_along, slots_end, slots_told, stations_told, strangers_end, strangers_told}
use Rattle.mme_core.proofs.Order.{run_order}
use Rattle.mme_core.proofs.Faults.{faults_push}
use Rattle.mme_core.proofs.Runs.{ran_more}
use Rattle.mme_core.proofs.Stations.{station_ends}
use Rattle.mme_core.proofs.mme.Mme.run.Goals as goal

pub loop-event-preserved : goal.loop-event-preserved
loop-event-preserved c =
    let i = c.loop-event.event-index in
    let es = c.args.events.now in
    let rs = c.loop-event.replies.items in
    let h = c.loop-event.invariant in
    let x = c.event-item.result in
    let more : take (i + 1) es ≡ take i es ++ x ∷ [] =
    take_more es i x c.loop-event-test.true ∙ ap (λ y. take i es ++ y ∷ []) (sym c.event-item.is) in
    let push : c.push_reserved.new.self.items ≡ rs ++ c.step-reply.result ∷ [] = c.push_reserved.ensures.items in
    let same : length (take i es) ≡ length rs = omega (arith, length-take i es) in
    let next = ran_more c.args.self.now (take i es) rs c.loop-event.self c.step-reply.new.self x c.step-reply.result same h.ran
    c.step-reply.ensures.reply c.step-reply.ensures.after c.step-reply.ensures.refused c.step-reply.ensures.err in
    record {
      room = omega (arith, h.room, c.push_reserved.ensures.capacity);
      count = omega (arith, ap length push, length_push rs c.step-reply.result);
      ran = rw (more, push) next;
      faults = rw (more, push) (faults_push c.args.self.now c.loop-event.self (take i es) rs x c.step-reply.result same h.faults h.ran.state c.step-reply.ensures.fault);
    }

pub returns-clause-faults : goal.returns-clause-faults
returns-clause-faults c =
    let l = c.loop-event in
    let es = c.args.events.now in
    let all : take l.event-index es ≡ es = take_all l.event-index es (let t = c.loop-event-test.false in omega (arith, t)) in
    subst (λ xs. HasEachFault c.args.self.now xs l.replies.items) all l.invariant.faults

pub returns-clause-told : goal.returns-clause-told
returns-clause-told c =
    let w = c.args.self.now in
    let l = c.loop-event in
    let es = c.args.events.now in
    let all : take l.event-index es ≡ es = take_all l.event-index es (let t = c.loop-event-test.false in omega (arith, t)) in
    let rising : Rising known_id w.strangers =
    subst (λ (v : World). Rising known_id v.strangers) c.self.view_is c.self.invariant.1.rising in
    λ slot x at. ap (told (is_slot slot)) (l.invariant.ran.replies ∙ ap (λ xs. replies w (events_taken xs l.replies.items)) all) ∙ slots_told w (events_taken es l.replies.items) slot x rising at

pub returns-clause-states : goal.returns-clause-states
returns-clause-states c =
    let w = c.args.self.now in
    let l = c.loop-event in
    let es = c.args.events.now in
    let all : take l.event-index es ≡ es = take_all l.event-index es (let t = c.loop-event-test.false in omega (arith, t)) in
    let rising : Rising known_id w.strangers =
    subst (λ (v : World). Rising known_id v.strangers) c.self.view_is c.self.invariant.1.rising in
    λ slot x at. ap (λ (v : World). slice_get v.subscribers slot) (l.invariant.ran.state ∙ ap (λ xs. world_run w (events_taken xs l.replies.items)) all) ∙ slots_end w (events_taken es l.replies.items) slot x rising at

pub returns-clause-absent : goal.returns-clause-absent
returns-clause-absent c =
    let w = c.args.self.now in
    let l = c.loop-event in
    let es = c.args.events.now in
    let all : take l.event-index es ≡ es = take_all l.event-index es (let t = c.loop-event-test.false in omega (arith, t)) in
    λ slot none. ap (told (is_slot slot)) (l.invariant.ran.replies ∙ ap (λ xs. replies w (events_taken xs l.replies.items)) all) ∙ absent_each w (events_taken es l.replies.items) slot none

pub returns-clause-strangers : goal.returns-clause-strangers
returns-clause-strangers c =
    let w = c.args.self.now in
    let l = c.loop-event in
    let es = c.args.events.now in
    let all : take l.event-index es ≡ es = take_all l.event-index es (let t = c.loop-event-test.false in omega (arith, t)) in
    let rising : Rising known_id w.strangers =
    subst (λ (v : World). Rising known_id v.strangers) c.self.view_is c.self.invariant.1.rising in
    λ id. ap (told (is_stranger id)) (l.invariant.ran.replies ∙ ap (λ xs. replies w (events_taken xs l.replies.items)) all) ∙ strangers_told w (events_taken es l.replies.items) id rising

pub returns-clause-stranger_states : goal.returns-clause-stranger_states
returns-clause-stranger_states c =
    let w = c.args.self.now in
    let l = c.loop-event in
    let es = c.args.events.now in
    let all : take l.event-index es ≡ es = take_all l.event-index es (let t = c.loop-event-test.false in omega (arith, t)) in
    let rising : Rising known_id w.strangers =
    subst (λ (v : World). Rising known_id v.strangers) c.self.view_is c.self.invariant.1.rising in
    λ id. ap (λ (v : World). stranger_at id v.strangers) (l.invariant.ran.state ∙ ap (λ xs. world_run w (events_taken xs l.replies.items)) all) ∙ strangers_end w (events_taken es l.replies.items) id rising

pub returns-clause-stations : goal.returns-clause-stations
returns-clause-stations c =
    let w = c.args.self.now in
    let l = c.loop-event in
    let es = c.args.events.now in
    let all : take l.event-index es ≡ es = take_all l.event-index es (let t = c.loop-event-test.false in omega (arith, t)) in
    λ e. ap (told (is_station e)) (l.invariant.ran.replies ∙ ap (λ xs. replies w (events_taken xs l.replies.items)) all) ∙ stations_told w (events_taken es l.replies.items) e

pub returns-clause-station_states : goal.returns-clause-station_states
returns-clause-station_states c =
    let w = c.args.self.now in
    let l = c.loop-event in
    let es = c.args.events.now in
    let all : take l.event-index es ≡ es = take_all l.event-index es (let t = c.loop-event-test.false in omega (arith, t)) in
    let long : length w.sight.stations ≡ 128 =
    sym (ap (λ (v : World). length v.sight.stations) c.self.view_is) ∙ c.self.invariant.1.stations in
    λ e lt. station_ends w l.self e (events_taken es l.replies.items) (l.invariant.ran.state ∙ ap (λ xs. world_run w (events_taken xs l.replies.items)) all) (omega (arith, long, lt))

pub returns-clause-order : goal.returns-clause-order
returns-clause-order c =
    let w = c.args.self.now in
    let l = c.loop-event in
    let rising : Rising known_id w.strangers =
    subst (λ (v : World). Rising known_id v.strangers) c.self.view_is c.self.invariant.1.rising in
    run_order w (events_taken (take l.event-index c.args.events.now) l.replies.items) l.replies.items rising l.invariant.ran.replies

pub returns-clause-fresh : goal.returns-clause-fresh
returns-clause-fresh c =
    let w = c.args.self.now in
    let es = c.args.events.now in
    let rs = c.loop-event.replies.items in
    let in_use : AreInUse w.subscribers = subst (λ (v : World). AreInUse v.subscribers) c.self.view_is c.self.invariant.1.in_use in
    λ slot x at.
    let items = projection slot w.sight (strangers_in w) (events_taken es rs) in
    let own : IsInUse x.solo = (in_use_at w.subscribers slot x in_use at).used in
    record {
      sent_ahead = c.sent_counts_are_fresh.ensures.ahead x.setting x.solo items own;
      sent_once = c.sent_counts_are_fresh.ensures.once x.setting x.solo items own;
      accepted_ahead = c.accepted_counts_are_fresh.ensures.ahead x.setting x.solo items own;
      accepted_once = c.accepted_counts_are_fresh.ensures.once x.setting x.solo items own;
      made_ahead = c.vector_makes_one_context.ensures.ahead x.setting x.solo items own;
      made_once = c.vector_makes_one_context.ensures.once x.setting x.solo items own;
    }

pub returns-clause-each_states : goal.returns-clause-each_states
returns-clause-each_states c =
    let w = c.args.self.now in
    let rising : Rising known_id w.strangers =
    subst (λ (v : World). Rising known_id v.strangers) c.self.view_is c.self.invariant.1.rising in
    λ slot x at. slots_along w (events_taken c.args.events.now c.loop-event.replies.items) slot x rising at

pub returns-clause-guarded : goal.returns-clause-guarded
returns-clause-guarded c =
    let w = c.args.self.now in
    let es = c.args.events.now in
    let rs = c.loop-event.replies.items in
    let in_use : AreInUse w.subscribers = subst (λ (v : World). AreInUse v.subscribers) c.self.view_is c.self.invariant.1.in_use in
    λ slot x at.
    let items = projection slot w.sight (strangers_in w) (events_taken es rs) in
    let own : IsSound x.setting x.solo = (in_use_at w.subscribers slot x in_use at).sound in
    record {
      marked = c.protected_forms_are_marked.ensures.each x.setting x.solo items own;
      in_order = c.protected_forms_are_marked.ensures.order x.setting x.solo items own;
      proved = λ seen unseen whole away past. c.registered_by_proof.ensures x.setting x.solo seen own away past;
      keys = λ seen unseen item whole. c.keys_go_to_the_proved.ensures.each x.setting (solo_after x.setting x.solo seen) item (c.soundness_is_kept.ensures.run x.setting x.solo seen own);
      keys_by_proof = λ seen unseen item whole away. c.keys_go_to_the_proved.ensures.run x.setting x.solo seen item own away;
      unproved = λ seen unseen item whole k. c.unproved_leaves.ensures x.setting (solo_after x.setting x.solo seen) k item;
    }

pub returns-clause-ends : goal.returns-clause-ends
returns-clause-ends c =
    let w = c.args.self.now in
    let in_use : AreInUse w.subscribers = subst (λ (v : World). AreInUse v.subscribers) c.self.view_is c.self.invariant.1.in_use in
    λ slot x at.
    ending_run c.clocks_are_kept.ensures.run c.silent_phones_end.ensures.procedure c.silent_phones_end.ensures.forgotten x
    (projection slot w.sight (strangers_in w) (events_taken c.args.events.now c.loop-event.replies.items)) (in_use_at w.subscribers slot x in_use at).clocked
