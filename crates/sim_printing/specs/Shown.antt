-- What is printed, octet by octet: a line, the answers to it as comments, and what an event and a question leave.
use Rattle.std.specs.Prelude.{◌≡◌, ℕ, List, [], ◌∷◌, ◌++◌, Option, Some, None, Result, Ok, Err, codes}
use Rattle.std.specs.List.{flat_map}
use Rattle.emm_machine.specs.declared.subscriber.States.{States}
use Rattle.mme_core.specs.World.{World, reply}
use Rattle.mme_core.specs.declared.event.Event.{Event}
use Rattle.mme_core.specs.declared.event.StepFault.{StepFault}
use Rattle.mme_core.specs.mme_answering.declared.out.Out.{Out}
use Rattle.trace_answers.specs.Words.{out_text, refused_text, states_text}
use Rattle.trace_progress.specs.declared.progress.Progress.{Progress}
use Rattle.trace_progress.specs.declared.progress.Progress.TheVariants.{Running}
use Rattle.trace_progress.specs.Effects.{running, states_of_imsi}
use Rattle.trace_progress.specs.Replies.{refusal_number}

-- ---- lines and comments

-- an output with a line more
abbrev pub with_line : List ℕ → List ℕ → List ℕ
with_line line out = out ++ (line ++ 10 ∷ [])

-- an answer line, which ends with its LF, as a comment
abbrev pub as_comment : List ℕ → List ℕ
as_comment answer = codes "# " ++ answer

-- the messages that were sent, each as a comment
abbrev pub sent_comments : List Out → List ℕ
sent_comments outs = flat_map (λ out. as_comment (out_text out)) outs

-- the answers to an event: what was sent, or why it was refused
abbrev pub reply_comments : Result (List Out) StepFault → List ℕ
reply_comments (Ok outs) = sent_comments outs
reply_comments (Err fault) = as_comment (refused_text (refusal_number fault))

-- an output with the line of an event and its answers
abbrev pub with_reply : List ℕ → Result (List Out) StepFault → List ℕ → List ℕ
with_reply line answer out = with_line line out ++ reply_comments answer

-- an output with a question and its answer, where the subscriber is known
abbrev pub with_states : List ℕ → List ℕ → Option States → List ℕ → List ℕ
with_states line imsi None out = out
with_states line imsi (Some states) out = with_line line out ++ as_comment (states_text imsi states)

-- ---- what is printed where an MME takes part, which ran already or is made of what is provisioned

-- of an event with this line
abbrev pub ShowsEvent : Progress → Event → List ℕ → List ℕ → List ℕ → Type 0
ShowsEvent old event line before after =
    (world : World) → running old ≡ Ok world → after ≡ with_reply line (reply world event) before

-- of a question with this line
abbrev pub ShowsStates : Progress → List ℕ → List ℕ → List ℕ → List ℕ → Type 0
ShowsStates old imsi line before after =
    (world : World) → running old ≡ Ok world → after ≡ with_states line imsi (states_of_imsi imsi world) before

-- the MME runs, and nothing has become of it
abbrev pub RunsSame : Progress → Progress → Type 0
RunsSame old new = (world : World) → running old ≡ Ok world → new ≡ Running world
