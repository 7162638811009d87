-- What is kept of a default bearer.
use Rattle.std.specs.Prelude.{ℕ, Bool, false, ◌==◌, Option, Some, None}
use Rattle.esm_machine.specs.declared.bearer.BearerState.{BearerState}
use Rattle.esm_machine.specs.declared.request.Request.{Request}

-- where its activation stands (TS 24.301 clause 6.1.3.3), and the connectivity request that was taken
pub record Session : Type 0 where
  pub state : BearerState
  pub request : Option Request

-- the transaction of the request that was taken, and 0 where none was
abbrev pub transaction_of : Option Request → ℕ
transaction_of None = 0
transaction_of (Some request) = request.transaction

-- whether a transaction is that of the request that was taken
abbrev pub is_transaction_of : Option Request → ℕ → Bool
is_transaction_of None transaction = false
is_transaction_of (Some request) transaction = request.transaction == transaction

abbrev pub asks_information : Option Request → Bool
asks_information None = false
asks_information (Some request) = request.information

-- whether both an IPv4 and an IPv6 address were asked for
abbrev pub is_dual : Option Request → Bool
is_dual None = false
is_dual (Some request) = request.dual
