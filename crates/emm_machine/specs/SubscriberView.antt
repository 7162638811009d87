-- What a contract sees of a subscriber.
use Rattle.emm_state.specs.declared.setting.Setting.{Setting}
use Rattle.emm_state.specs.declared.solo.Solo.{Solo}

-- what no step changes, and the state of its machine
pub record SubscriberView : Type 0 where
  pub setting : Setting
  pub solo : Solo
