use Rattle.laws_network.specs.BuilderLaws.{short_context_setup, short_downlink, short_error_indication, short_paging, short_path_switch_acknowledge, short_path_switch_failure, short_release_command}
use Rattle.laws_network.proofs.messages.phone_messages_are_written.Goals as goal

pub returns-clause-nas : goal.returns-clause-nas
returns-clause-nas c k nas ids brief = c.short_messages_are_written.ensures.written _ (short_downlink k nas ids brief)

pub returns-clause-release : goal.returns-clause-release
returns-clause-release c id enb_ue_id cause low less known =
    c.short_messages_are_written.ensures.written _ (short_release_command id enb_ue_id cause low less known)

pub returns-clause-indication : goal.returns-clause-indication
returns-clause-indication c id enb_ue_id cause low less known =
    c.short_messages_are_written.ensures.written _ (short_error_indication id enb_ue_id cause low less known)

pub returns-clause-not_switched : goal.returns-clause-not_switched
returns-clause-not_switched c id enb_ue_id cause low less known =
    c.short_messages_are_written.ensures.written _ (short_path_switch_failure id enb_ue_id cause low less known)

pub returns-clause-switched : goal.returns-clause-switched
returns-clause-switched c k hop count ids key low =
    c.short_messages_are_written.ensures.written _ (short_path_switch_acknowledge k hop count ids key low)

pub returns-clause-page : goal.returns-clause-page
returns-clause-page c n imsi tmsi tai network area =
    c.short_messages_are_written.ensures.written _ (short_paging n imsi tmsi tai network area)

pub returns-clause-set_up : goal.returns-clause-set_up
returns-clause-set_up c n p capability k kenb nas network profile ids key brief =
    c.short_messages_are_written.ensures.written _ (short_context_setup n p capability k kenb nas network profile ids key brief)
