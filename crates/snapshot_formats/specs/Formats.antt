-- Formats of the parts of a snapshot.
use Rattle.per_bits.specs.Formats.{Format, choice, done, either, items, last, may, must, number, octet_string, octets, octets_between, plain}
use Rattle.s1ap_elements.specs.Formats.{enb_ue_id, mme_ue_id, security_key, supported_tas, tai}

-- ---- numbers

-- a number that only grows
abbrev pub long : Format
long = number 0 4611686018427387904

-- a NAS COUNT
abbrev pub nas_count : Format
nas_count = number 0 4294967295

abbrev pub slot_number : Format
slot_number = number 0 32767

abbrev pub station_index : Format
station_index = number 0 127

-- the ticks that a countdown has left, at most those of the mobile reachable timer
abbrev pub ticks_left : Format
ticks_left = number 1 3480

-- how often its message may still be sent again
abbrev pub repeats_left : Format
repeats_left = number 0 255

-- a counter of ids
abbrev pub id_counter : Format
id_counter = number 0 65535

-- whether something is so
abbrev pub flag : Format
flag = number 0 1

-- ---- the head

-- bits in a second, of a phone's bearers together
abbrev pub bits_per_second : Format
bits_per_second = number 1 10000000000

-- PLMN, group, code; access point name; downlink and uplink
abbrev pub saved_network : Format
saved_network =
    plain (must (octets 3) (must (octets 2) (must (octets 1)
    (must (octets_between 1 63) (must bits_per_second (must bits_per_second done))))))

-- down, up, or set up with the tracking areas that it broadcasts
abbrev pub saved_station : Format
saved_station = choice (either (plain done) (either (plain done) (last supported_tas)))

-- the network, where the clock began, and where it is
abbrev pub saved_head : Format
saved_head = plain (must saved_network (must long (must long done)))

-- ---- strangers

abbrev pub saved_waiting : Format
saved_waiting = plain (must octet_string (must tai (must ticks_left (must repeats_left done))))

-- asked for its identity, or held by the subscriber of a slot
abbrev pub saved_stranger_state : Format
saved_stranger_state = choice (either saved_waiting (last slot_number))

abbrev pub saved_stranger : Format
saved_stranger = plain (must mme_ue_id (must saved_stranger_state done))

-- ---- connections and security contexts

abbrev pub saved_connection : Format
saved_connection = plain (must mme_ue_id (must station_index (must enb_ue_id done)))

abbrev pub saved_keys : Format
saved_keys = plain (must security_key (may security_key (must (number 0 7) done)))

-- the count that KeNB was derived of, and how many path switches followed
abbrev pub saved_trail : Format
saved_trail = plain (must nas_count (must long done))

abbrev pub saved_radio : Format
saved_radio = choice (either saved_keys (last saved_trail))

-- the vector's place, the next downlink count, the last uplink count, KASME
abbrev pub saved_context : Format
saved_context = plain (must long (must nas_count (may nas_count (must security_key (must saved_radio done)))))

-- ---- what was asked for

abbrev pub saved_asked : Format
saved_asked = plain (must (octets_between 2 13) (must flag (must flag done)))

abbrev pub saved_bearer_state : Format
saved_bearer_state = number 0 2

abbrev pub saved_request : Format
saved_request = plain (must (number 0 255) (must flag (must flag done)))

abbrev pub saved_bearer : Format
saved_bearer = plain (must saved_bearer_state (may saved_request done))

-- ---- what is waited for

-- a message, under a header if it isn't plain
abbrev pub saved_nas : Format
saved_nas = plain (may (number 1 4) (must octet_string done))

-- a NAS message, or PAGING to stations
abbrev pub saved_repeat : Format
saved_repeat = choice (either saved_nas (last (items 0 128 station_index)))

abbrev pub saved_countdown : Format
saved_countdown = plain (must (number 0 4) (must ticks_left (must repeats_left done)))

abbrev pub saved_waits : Format
saved_waits = plain (may saved_repeat (may saved_countdown (may ticks_left done)))

-- ---- states

abbrev pub saved_link : Format
saved_link = plain (must (number 0 7) (may saved_connection (may saved_context done)))

abbrev pub saved_ids : Format
saved_ids = plain (must id_counter (must id_counter (may (number 0 4294967295) done)))

abbrev pub saved_state : Format
saved_state = plain (must saved_link (must saved_ids (must tai (must saved_asked (must saved_bearer (must saved_waits done))))))

-- ---- subscribers

abbrev pub saved_vector : Format
saved_vector = plain (must (octets 16) (must (octets 16) (must (octets_between 4 16) (must security_key done))))

-- IMSI, address, gateway, tunnel end; how many vectors are spent
abbrev pub saved_subscriber : Format
saved_subscriber =
    plain (must (octets 8) (must (octets 4) (must (octets 4) (must (octets 4)
    (must long (must (items 0 65535 saved_vector) (must saved_state done)))))))
