-- The timers of the network's side (TS 24.301 clause 10.2): their lengths in ticks, which are seconds, and how often the message
-- of a procedure is sent again when its timer ends.
use Rattle.std.specs.Prelude.{ℕ}

-- ---- T3412, the periodic tracking area update: 54 minutes

abbrev pub t3412_ticks : ℕ
t3412_ticks = 3240

-- as messages have it: 9 times 6 minutes (TS 24.008 clause 10.5.7.3)
abbrev pub t3412_octet : ℕ
t3412_octet = 0x49

-- the mobile reachable timer, after which a phone that is idle is taken to be gone: four minutes longer than T3412
-- (TS 24.301 clause 5.3.5)
abbrev pub mobile_reachable_ticks : ℕ
mobile_reachable_ticks = 3480

-- ---- T3413, of PAGING

abbrev pub t3413_ticks : ℕ
t3413_ticks = 10

abbrev pub t3413_repeats : ℕ
t3413_repeats = 1

-- ---- T3422, of the network's DETACH REQUEST

abbrev pub t3422_ticks : ℕ
t3422_ticks = 6

abbrev pub t3422_repeats : ℕ
t3422_repeats = 4

-- ---- T3450, of ATTACH ACCEPT and TRACKING AREA UPDATE ACCEPT

abbrev pub t3450_ticks : ℕ
t3450_ticks = 6

abbrev pub t3450_repeats : ℕ
t3450_repeats = 4

-- ---- T3460, of AUTHENTICATION REQUEST and SECURITY MODE COMMAND

abbrev pub t3460_ticks : ℕ
t3460_ticks = 6

abbrev pub t3460_repeats : ℕ
t3460_repeats = 4

-- ---- T3470, of IDENTITY REQUEST

abbrev pub t3470_ticks : ℕ
t3470_ticks = 6

abbrev pub t3470_repeats : ℕ
t3470_repeats = 4

-- ---- T3489, of ESM INFORMATION REQUEST

abbrev pub t3489_ticks : ℕ
t3489_ticks = 4

abbrev pub t3489_repeats : ℕ
t3489_repeats = 2
