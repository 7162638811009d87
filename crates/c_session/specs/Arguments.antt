-- Arguments of calls, each from what it is given as.
use Rattle.std.specs.Prelude.{ℕ, ◌==◌, ◌&&◌, nat_le, nat_lt, List, [], ◌∷◌, length, Result, Ok, Err, if◌then◌else◌}
use Rattle.std.specs.Int.{to_be_bytes, w16, w32}
use Rattle.identity_slots.specs.declared.profile.Profile.{Profile}
use Rattle.identity_slots.specs.declared.profile.Vector.{Vector}
use Rattle.mme_types.specs.declared.network.Network.{Network}
use Rattle.trace_words.specs.Trace.{label_field, subscriber_field}
use Rattle.c_session.specs.declared.refusal.Refusal.{Refusal}
use Rattle.c_session.specs.declared.refusal.Refusal.TheVariants.{BadNumber, BadOctets}
use Rattle.c_session.specs.Refusals.{◌>>=◌, of_field}

-- a number from `least` to `most`
abbrev pub number_within : ℕ → ℕ → ℕ → Result ℕ Refusal
number_within least most n = if nat_le least n && nat_le n most then Ok n else Err BadNumber

-- the station of a number
abbrev pub station_of : ℕ → Result ℕ Refusal
station_of number = if nat_lt number 128 then Ok number else Err BadNumber

-- a number of ticks
abbrev pub ticks_of : ℕ → Result ℕ Refusal
ticks_of count = number_within 1 1000000 count

-- an IMSI in its digits
abbrev pub imsi_of : List ℕ → Result (List ℕ) Refusal
imsi_of text = of_field (subscriber_field text)

-- n octets
abbrev pub sized : ℕ → List ℕ → Result (List ℕ) Refusal
sized n octets = if length octets == n then Ok octets else Err BadOctets

abbrev pub xres_of : List ℕ → Result (List ℕ) Refusal
xres_of octets = if nat_le 4 (length octets) && nat_le (length octets) 16 then Ok octets else Err BadOctets

-- an access point name
abbrev pub apn_of : List ℕ → Result (List ℕ) Refusal
apn_of text = of_field (label_field text)

-- a bit rate of all bearers
abbrev pub rate_of : ℕ → Result ℕ Refusal
rate_of rate = number_within 1 10000000000 rate

-- what the MME is, and what it grants each phone
abbrev pub network_of : List ℕ → ℕ → ℕ → List ℕ → ℕ → ℕ → Result Network Refusal
network_of plmn group code apn down up =
    sized 3 plmn >>= (λ p. apn_of apn >>= (λ a. rate_of down >>= (λ d. rate_of up >>= (λ u.
    Ok (record { plmn = p; group = to_be_bytes w16 group; code = code ∷ []; apn = a; down = d; up = u })))))

-- a subscriber
abbrev pub profile_of : List ℕ → ℕ → ℕ → ℕ → Result Profile Refusal
profile_of imsi address gateway teid =
    imsi_of imsi >>= (λ i.
    Ok (record {
      imsi = i;
      address = to_be_bytes w32 address;
      gateway = to_be_bytes w32 gateway;
      teid = to_be_bytes w32 teid;
    }))

-- an authentication vector
abbrev pub vector_of : List ℕ → List ℕ → List ℕ → List ℕ → Result Vector Refusal
vector_of rand autn xres kasme =
    sized 16 rand >>= (λ r. sized 16 autn >>= (λ a. xres_of xres >>= (λ x. sized 32 kasme >>= (λ k.
    Ok (record { rand = r; autn = a; xres = x; kasme = k })))))
