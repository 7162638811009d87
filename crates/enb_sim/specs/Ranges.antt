-- The ranges of what a station's messages are built of. A definition's strings are of any length; in the code these hold by the
-- types.
use Rattle.std.specs.Prelude.{Option, Some, None}
use Rattle.per_streams.specs.Octet.{AreBytes, IsLong}
use Rattle.s1ap_elements.specs.declared.phone.STmsi.{STmsi}
use Rattle.enb_sim.specs.declared.profile.StationProfile.{StationProfile}

-- its network, its Macro eNB ID of 20 bits and its tracking area (TS 36.413 clauses 9.2.3.8, 9.2.1.37, 9.2.3.7)
pub record SiteInRange (s : StationProfile) : Type 0 where
  pub plmn : AreBytes 3 s.plmn
  pub macro_id : IsLong 20 s.macro_id
  pub tac : AreBytes 2 s.tac

-- an MME code and an M-TMSI, where they are there (TS 36.413 clause 9.2.3.6)
abbrev pub STmsiInRangeIf : Option STmsi → Type 0
STmsiInRangeIf None = Unit {0}
STmsiInRangeIf (Some t) = AreBytes 1 t.code × AreBytes 4 t.m_tmsi
