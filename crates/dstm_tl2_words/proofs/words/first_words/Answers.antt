use Rattle.std.proofs.Common.{rules, ◌≡◌, ◌∙◌, ◌++◌, ◌∷◌, [], ℕ, List, length, map, replicate, take, ap, sym, append_assoc, append-nil, get_or}
use Rattle.std.proofs.lemmas.List.{map_more, take_all}
use Rattle.dstm_model.specs.Map.{no_value}
use Rattle.dstm_model.specs.declared.value.Val.{Val}
use Rattle.dstm_tl2_words.proofs.words.first_words.Goals as goal

pub loop-value-init : goal.loop-value-init
loop-value-init c =
    let zeros : c.in_ok-words.words.items ≡ replicate (length c.args.start.now) 0 = search rules in
    c.reserve_exact.ensures.items ∙ zeros ∙ sym (append-nil (replicate (length c.args.start.now) 0))

pub loop-value-preserved : goal.loop-value-preserved
loop-value-preserved c =
    let start = c.args.start.now in
    let i = c.loop-value.value-index in
    let zeros = replicate (length start) 0 in
    let lows = map (λ (value : Val). value.low) (take i start) in
    let pushed : c.push.new.self.items ≡ c.loop-value.words.items ++ (get_or start i no_value).low ∷ [] =
    search rules in
    pushed
    ∙ ap (λ (ws : List ℕ). ws ++ (get_or start i no_value).low ∷ []) c.loop-value.invariant
    ∙ append_assoc zeros lows ((get_or start i no_value).low ∷ [])
    ∙ ap (λ (ws : List ℕ). zeros ++ ws) (sym (map_more (λ (value : Val). value.low) start i no_value c.loop-value-test.true))

pub loop-value-2-init : goal.loop-value-2-init
loop-value-2-init c =
    let start = c.args.start.now in
    let zeros = replicate (length start) 0 in
    let all = take_all c.loop-value.value-index start c.loop-value-test.false in
    c.loop-value.invariant
    ∙ ap (λ (vs : List Val). zeros ++ map (λ (value : Val). value.low) vs) all
    ∙ ap (λ (ws : List ℕ). zeros ++ ws) (sym (append-nil (map (λ (value : Val). value.low) start)))

pub loop-value-2-preserved : goal.loop-value-2-preserved
loop-value-2-preserved c =
    let start = c.args.start.now in
    let i = c.loop-value-2.value-index in
    let zeros = replicate (length start) 0 in
    let lows = map (λ (value : Val). value.low) start in
    let highs = map (λ (value : Val). value.high) (take i start) in
    let pushed : c.push-in-loop-value-2.new.self.items ≡ c.loop-value-2.words.items
    ++ (get_or start i no_value).high ∷ [] = search rules in
    pushed
    ∙ ap (λ (ws : List ℕ). ws ++ (get_or start i no_value).high ∷ []) c.loop-value-2.invariant
    ∙ append_assoc zeros (lows ++ highs) ((get_or start i no_value).high ∷ [])
    ∙ ap (λ (ws : List ℕ). zeros ++ ws) (append_assoc lows highs ((get_or start i no_value).high ∷ []))
    ∙ ap (λ (ws : List ℕ). zeros ++ (lows ++ ws))
    (sym (map_more (λ (value : Val). value.high) start i no_value c.loop-value-2-test.true))

pub returns : goal.returns
returns c =
    let start = c.args.start.now in
    let zeros = replicate (length start) 0 in
    let lows = map (λ (value : Val). value.low) start in
    let highs = map (λ (value : Val). value.high) start in
    let all = take_all c.loop-value-2.value-index start c.loop-value-2-test.false in
    let one : List ℕ = 0 ∷ [] in
    let first : c.push-2.new.self.items ≡ c.loop-value-2.words.items ++ 0 ∷ [] = search rules in
    let second : c.push-3.new.self.items ≡ c.push-2.new.self.items ++ 0 ∷ [] = search rules in
    second
    ∙ ap (λ (ws : List ℕ). ws ++ 0 ∷ []) first
    ∙ append_assoc c.loop-value-2.words.items one one
    ∙ ap (λ (ws : List ℕ). ws ++ 0 ∷ 0 ∷ []) c.loop-value-2.invariant
    ∙ ap (λ (vs : List Val). (zeros ++ (lows ++ map (λ (value : Val). value.high) vs)) ++ 0 ∷ 0 ∷ []) all
    ∙ append_assoc zeros (lows ++ highs) (0 ∷ one)
    ∙ ap (λ (ws : List ℕ). zeros ++ ws) (append_assoc lows highs (0 ∷ one))
