use Rattle.s1ap_pdus.proofs.WritableLaws.{encoded_where, refused_elsewhere}
use Rattle.s1ap_pdus.proofs.laws.encoded_exactly.Goals as goal

pub returns-clause-written : goal.returns-clause-written
returns-clause-written c = encoded_where

pub returns-clause-refused : goal.returns-clause-refused
returns-clause-refused c = refused_elsewhere
