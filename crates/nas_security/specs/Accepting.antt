-- What a security context accepts.
use Rattle.std.specs.Prelude.{ℕ, ◌/◌, ◌%◌, ◌^◌, ◌==◌, ◌&&◌, Bool, List, ◌∷◌, take, drop, slice_index, Option, Some, None, Result, Ok, Err, if◌then◌else◌}
use Rattle.std.specs.List.{list_any}
use Rattle.std.specs.Borrow.{Bor}
use Rattle.eps_keys.specs.Same.{same_octets}
use Rattle.eps_keys.specs.declared.direction.DirectionBit.TheVariants.{Uplink}
use Rattle.nas_messages.specs.declared.protection.SecurityHeader.{SecurityHeader}
use Rattle.nas_messages.specs.declared.protection.Protected.{Protected}
use Rattle.nas_elements.specs.Codes.{service_request_head}
use Rattle.nas_messages.specs.Protection.{header_code, split, unlent}
use Rattle.nas_security.specs.declared.fault.SecurityFault.{SecurityFault}
use Rattle.nas_security.specs.declared.fault.SecurityFault.TheVariants.{BadMac, CountSpent, WrongHeader}
use Rattle.nas_security.specs.Context.{Mac}
use Rattle.nas_security.specs.Counts.{estimate}

-- a header is among those allowed
abbrev pub is_allowed : List SecurityHeader → SecurityHeader → Bool
is_allowed allowed header = list_any (λ one. header_code one == header_code header) allowed

-- the count and the message, or the fault
abbrev pub Acceptance : Type 0
Acceptance = Result (ℕ × List ℕ) SecurityFault

-- the answer on these parts under the count that the sequence number gave: the MAC is over the
-- sequence number and the message (TS 24.301 clause 9.5)
abbrev pub accepted_under : Mac → Protected (List ℕ) → Option ℕ → Acceptance
accepted_under mac p None = Err CountSpent
accepted_under mac p (Some count) =
    if same_octets p.mac (mac count Uplink (p.sequence ∷ p.message)) then Ok (count, p.message)
    else Err BadMac

-- on the parts of a protected message, or none, with the last accepted count and the headers allowed
abbrev pub accepted_parts : Mac → Option ℕ → List SecurityHeader → Option (Protected (List ℕ)) → Acceptance
accepted_parts mac last allowed None = Err WrongHeader
accepted_parts mac last allowed (Some p) =
    if is_allowed allowed p.header then accepted_under mac p (estimate last p.sequence (2 ^ 8))
    else Err WrongHeader

-- on octets
unfoldable pub accepted : Mac → Option ℕ → List SecurityHeader → List ℕ → Acceptance
accepted mac last allowed octets = accepted_parts mac last allowed (split octets)

-- the last accepted count after that answer
abbrev pub last_after : Option ℕ → Acceptance → Option ℕ
last_after last (Ok found) = Some found.0
last_after last (Err fault) = last

-- an answer without where its message lies in memory
abbrev pub seen_acceptance : Result (ℕ × Bor (List ℕ)) SecurityFault → Acceptance
seen_acceptance (Ok found) = Ok (found.0, found.1.now)
seen_acceptance (Err fault) = Err fault

-- the parts of a message and what its MAC is over, likewise
abbrev pub seen_parts :
    Option (Protected (Bor (List ℕ)) × Bor (List ℕ)) → Option (Protected (List ℕ) × List ℕ)
seen_parts None = None
seen_parts (Some found) = Some (unlent found.0, found.1.now)

-- The four octets of a SERVICE REQUEST: its discriminator, the key set identifier with five bits of
-- the count, and the last two octets of the MAC over the first two (TS 24.301 clauses 8.2.25, 9.9.3.19 and
-- 9.9.3.28).

-- the count, or the fault, under the count that the five bits gave
abbrev pub short_under : Mac → List ℕ → Option ℕ → Result ℕ SecurityFault
short_under mac octets None = Err CountSpent
short_under mac octets (Some count) =
    if same_octets (take 2 (drop 2 octets)) (take 2 (drop 2 (mac count Uplink (take 2 octets))))
    then Ok count
    else Err BadMac

-- on the octets, with the last accepted count and the key set identifier
unfoldable pub short_accepted : Mac → Option ℕ → ℕ → List ℕ → Result ℕ SecurityFault
short_accepted mac last ksi octets =
    if slice_index octets 0 == service_request_head && slice_index octets 1 / 2 ^ 5 == ksi
    then short_under mac octets (estimate last (slice_index octets 1 % 2 ^ 5) (2 ^ 5))
    else Err WrongHeader

abbrev pub short_after : Option ℕ → Result ℕ SecurityFault → Option ℕ
short_after last (Ok count) = Some count
short_after last (Err fault) = last
