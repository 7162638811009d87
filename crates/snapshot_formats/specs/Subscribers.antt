-- Subscribers, by their names, as their formats have them.
use Rattle.std.specs.Prelude.{map, option_map}
use Rattle.per_bits.specs.Formats.{Value, left_of, right_of}
use Rattle.s1ap_elements.specs.Phones.{typed_tai}
use Rattle.snapshot_formats.specs.Formats.{saved_asked, saved_bearer, saved_bearer_state, saved_countdown, saved_ids, saved_link, saved_nas, saved_repeat, saved_request, saved_state, saved_subscriber, saved_vector, saved_waits}
use Rattle.snapshot_formats.specs.Contexts.{typed_saved_connection, typed_saved_context}
use Rattle.snapshot_formats.specs.Numbers.{typed_flag}
use Rattle.snapshot_formats.specs.declared.subscriber.SavedAsked.{SavedAsked}
use Rattle.snapshot_formats.specs.declared.subscriber.SavedBearer.{SavedBearer}
use Rattle.snapshot_formats.specs.declared.subscriber.SavedBearerState.TheVariants.{Active, ActivePending, Inactive}
use Rattle.snapshot_formats.specs.declared.subscriber.SavedBearerState.{SavedBearerState}
use Rattle.snapshot_formats.specs.declared.subscriber.SavedCountdown.{SavedCountdown}
use Rattle.snapshot_formats.specs.declared.subscriber.SavedIds.{SavedIds}
use Rattle.snapshot_formats.specs.declared.subscriber.SavedLink.{SavedLink}
use Rattle.snapshot_formats.specs.declared.subscriber.SavedNas.{SavedNas}
use Rattle.snapshot_formats.specs.declared.subscriber.SavedRepeat.TheVariants.{Nas, Paging}
use Rattle.snapshot_formats.specs.declared.subscriber.SavedRepeat.{SavedRepeat}
use Rattle.snapshot_formats.specs.declared.subscriber.SavedRequest.{SavedRequest}
use Rattle.snapshot_formats.specs.declared.subscriber.SavedState.{SavedState}
use Rattle.snapshot_formats.specs.declared.subscriber.SavedSubscriber.{SavedSubscriber}
use Rattle.snapshot_formats.specs.declared.subscriber.SavedVector.{SavedVector}
use Rattle.snapshot_formats.specs.declared.subscriber.SavedWaits.{SavedWaits}

abbrev pub typed_saved_link : SavedLink → Value saved_link
typed_saved_link l = (l.phase, (option_map typed_saved_connection l.connection, (option_map typed_saved_context l.context, tt)))

abbrev pub typed_saved_ids : SavedIds → Value saved_ids
typed_saved_ids i = (i.associations, (i.tmsis, (i.tmsi, tt)))

abbrev pub typed_saved_asked : SavedAsked → Value saved_asked
typed_saved_asked a = (a.capability.octets.now, (typed_flag a.combined_attach.set, (typed_flag a.initial_update.set, tt)))

abbrev pub typed_saved_bearer_state : SavedBearerState → Value saved_bearer_state
typed_saved_bearer_state Inactive = 0
typed_saved_bearer_state ActivePending = 1
typed_saved_bearer_state Active = 2

abbrev pub typed_saved_request : SavedRequest → Value saved_request
typed_saved_request r = (r.transaction, (typed_flag r.dual.set, (typed_flag r.information.set, tt)))

abbrev pub typed_saved_bearer : SavedBearer → Value saved_bearer
typed_saved_bearer b = (typed_saved_bearer_state b.state, (option_map typed_saved_request b.request, tt))

abbrev pub typed_saved_nas : SavedNas → Value saved_nas
typed_saved_nas n = (n.header, (n.nas.octets.now, tt))

abbrev pub typed_saved_repeat : SavedRepeat → Value saved_repeat
typed_saved_repeat (Nas n) = left_of (typed_saved_nas n)
typed_saved_repeat (Paging stations) = right_of (map (λ e. e) stations)

abbrev pub typed_saved_countdown : SavedCountdown → Value saved_countdown
typed_saved_countdown c = (c.timer, (c.left, (c.repeats, tt)))

abbrev pub typed_saved_waits : SavedWaits → Value saved_waits
typed_saved_waits w = (option_map typed_saved_repeat w.repeat, (option_map typed_saved_countdown w.procedure, (w.reachable, tt)))

abbrev pub typed_saved_state : SavedState → Value saved_state
typed_saved_state s = (
  typed_saved_link s.link,
  (
    typed_saved_ids s.ids,
    (
      typed_tai s.tai,
      (typed_saved_asked s.asked, (typed_saved_bearer s.bearer, (typed_saved_waits s.waits, tt))),
    ),
  ),
)

abbrev pub typed_saved_vector : SavedVector → Value saved_vector
typed_saved_vector v = (v.rand, (v.autn, (v.xres.octets.now, (v.kasme.octets.now, tt))))

abbrev pub typed_saved_subscriber : SavedSubscriber → Value saved_subscriber
typed_saved_subscriber s = (
  s.imsi,
  (
    s.address,
    (
      s.gateway,
      (
        s.teid,
        (s.spent, (map typed_saved_vector s.vectors, (typed_saved_state s.state, tt))),
      ),
    ),
  ),
)
