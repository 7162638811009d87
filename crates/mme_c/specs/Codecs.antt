-- What the calls without a handle tell.
use Rattle.std.specs.Prelude.{◌≡◌, ◌≢◌, ◌⊎◌, ℕ, List, length, Option, Some, None, Result, Ok, Err}
use Rattle.s1ap_pdus.specs.Pdus.{decoded}
use Rattle.c_codecs.specs.declared.fault.CodecFault.{CodecFault}
use Rattle.c_codecs.specs.declared.nas.NasParts.{NasParts}
use Rattle.c_codecs.specs.declared.s1ap.S1apMessage.{S1apMessage}
use Rattle.c_codecs.specs.Faults.{number_of}
use Rattle.c_codecs.specs.S1ap.{summed}
use Rattle.mme_c.specs.declared.codecs.MessageIds.{MessageIds}
use Rattle.mme_c.specs.declared.codecs.NasForm.{NasForm}

-- it is told, or refused, with the number why, and what was to be written stays
abbrev pub IsFound : {A : Type 0} → Result A CodecFault → A → ℕ → A → Type 0
IsFound (Ok x) old answer new = (answer ≡ 0) × (new ≡ x)
IsFound (Err fault) old answer new = (answer ≡ number_of fault) × (new ≡ old)

-- whether there is an id, 1 or 0, and the id
abbrev pub has_id : Option ℕ → ℕ
has_id None = 0
has_id (Some id) = 1

abbrev pub id_or_0 : Option ℕ → ℕ
id_or_0 None = 0
id_or_0 (Some id) = id

abbrev pub message_ids : S1apMessage → MessageIds
message_ids m = record {
  kind = m.kind;
  has_mme_ue_id = has_id m.mme_ue_id;
  mme_ue_id = id_or_0 m.mme_ue_id;
  has_enb_ue_id = has_id m.enb_ue_id;
  enb_ue_id = id_or_0 m.enb_ue_id;
}

abbrev pub in_ids : Result S1apMessage CodecFault → Result MessageIds CodecFault
in_ids (Ok m) = Ok (message_ids m)
in_ids (Err fault) = Err fault

-- the message that octets spell, or its fault; or memory ran out (4)
abbrev pub IsMessage : List ℕ → MessageIds → ℕ → MessageIds → Type 0
IsMessage octets old answer new =
    ((answer ≡ 4) × (new ≡ old)) ⊎ IsFound (in_ids (summed (decoded octets))) old answer new

abbrev pub in_form : Result NasParts CodecFault → Result NasForm CodecFault
in_form (Ok p) = Ok (record { header = p.header; mac = p.mac; sequence = p.sequence })
in_form (Err fault) = Err fault

-- a key is written where there is room for it and no more, else nothing is (14); or it is refused, with the number why
abbrev pub IsKey : Result (List ℕ) CodecFault → List ℕ → ℕ → List ℕ → Type 0
IsKey (Ok key) old answer new =
    ((answer ≡ 0) × (length old ≡ length key) × (new ≡ key)) ⊎ ((answer ≡ 14) × (length old ≢ length key) × (new ≡ old))
IsKey (Err fault) old answer new = (answer ≡ number_of fault) × (new ≡ old)
