-- The texts of messages that are sent, one after another.
use Rattle.std.proofs.Common.{◌≡◌, ℕ, ◌+◌, ◌<◌, List, [], ◌∷◌, ◌++◌, length, take, get_or, refl, sym, ap, ◌∙◌, append_assoc, append-nil}
use Rattle.std.proofs.lemmas.List.{take_more}
use Rattle.mme_answering.specs.declared.out.Out.{Out}
use Rattle.trace_answers.specs.Words.{answers_of, out_text}

pub answers_of-append : (xs ys : List Out) → answers_of (xs ++ ys) ≡ answers_of xs ++ answers_of ys
answers_of-append [] ys = refl
answers_of-append (x ∷ xs) ys =
    ap (λ v. out_text x ++ v) (answers_of-append xs ys) ∙ sym (append_assoc (out_text x) (answers_of xs) (answers_of ys))

pub answers_of-more : (outs : List Out) (i : ℕ) (out : Out) → i < length outs → out ≡ get_or outs i out
    → answers_of (take (i + 1) outs) ≡ answers_of (take i outs) ++ out_text out
answers_of-more outs i out h e =
    ap answers_of (take_more outs i out h) ∙ answers_of-append (take i outs) (get_or outs i out ∷ [])
    ∙ ap (λ v. answers_of (take i outs) ++ v) (ap (λ (o : Out). out_text o ++ []) (sym e) ∙ append-nil (out_text out))
