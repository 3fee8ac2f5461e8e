-- What has been read in front of what is read behind it.
use Rattle.std.proofs.Common.{◌≡◌, ℕ, ◌-◌, ◌<◌, ltb, List, [], ◌∷◌, ◌++◌, length, Option, Some, None}
use Rattle.std.proofs.Common.{refl, ap, sym, ◌∙◌, append_assoc, arith}
use Rattle.std.proofs.lemmas.Bool.{lt-ltb, cond-true}
use Rattle.std.proofs.lemmas.List.{length_push}
use Rattle.dstm_model.specs.declared.reply.Reply.{Reply}
use Rattle.dstm_text.specs.Options.{◌>>=◌}
use Rattle.dstm_report.specs.Parser.{further_reply, further_replies}

abbrev pub onto : {X : Type 0} → List X → Option (List X) → Option (List X)
onto xs None = None
onto xs (Some ys) = Some (xs ++ ys)

pub onto_more : {X : Type 0} (xs : List X) (x : X) (read : Option (List X)) →
    onto (xs ++ x ∷ []) read ≡ onto xs (onto (x ∷ []) read)
onto_more xs x None = refl
onto_more {X} xs x (Some ys) = ap (λ (l : List X). Some l) (append_assoc xs (x ∷ []) ys)

bind_onto : {X : Type 0} (x : X) (read : Option (List X)) → (read >>= λ xs. Some (x ∷ xs)) ≡ onto (x ∷ []) read
bind_onto x None = refl
bind_onto x (Some xs) = refl

-- one reply more
pub further_more : (version : ℕ) (done : List Reply) (mark word : List ℕ) (words : List (List ℕ)) (reply : Reply) →
    length done < 8 → further_reply version mark word ≡ Some reply →
    onto (done ++ reply ∷ []) (further_replies version (8 - length (done ++ reply ∷ [])) words)
    ≡ onto done (further_replies version (8 - length done) (mark ∷ word ∷ words))
further_more version done mark word words reply few is_reply =
    let room = 8 - length done in
    let next = further_replies version (room - 1) words in
    let less : 8 - length (done ++ reply ∷ []) ≡ room - 1 = omega (arith, length_push done reply) in
    let read : further_replies version room (mark ∷ word ∷ words) ≡
    (further_reply version mark word >>= λ r. (next >>= λ rs. Some (r ∷ rs))) =
    cond-true (ltb 0 room) _ None (lt-ltb 0 room (omega arith)) in
    ap (λ n. onto (done ++ reply ∷ []) (further_replies version n words)) less
    ∙ onto_more done reply next
    ∙ ap (onto done) (sym (read ∙ ap (λ (o : Option Reply). o >>= λ r. (next >>= λ rs. Some (r ∷ rs))) is_reply
    ∙ bind_onto reply next))
