use Rattle.std.proofs.Common.{◌≡◌, ◌++◌, [], ◌∷◌, List, ℕ, append_assoc, ap, decimal, refl, ◌∙◌}
use Rattle.dstm_report.proofs.rendering.put_row.Goals as goal

-- a text behind a text that was put behind another
more : (s t u x y z : List ℕ) → t ≡ s ++ x → u ≡ t ++ y → x ++ y ≡ z → u ≡ s ++ z
more s t u x y z one two both =
    two ∙ ap (λ (l : List ℕ). l ++ y) one ∙ append_assoc s x y ∙ ap (λ (l : List ℕ). s ++ l) both

-- a row, part by part
parts : (s a b c d e f g h i j line worker round number replies : List ℕ) → a ≡ s ++ line → b ≡ a ++ 32 ∷ [] →
    c ≡ b ++ worker → d ≡ c ++ 32 ∷ [] → e ≡ d ++ round → f ≡ e ++ 46 ∷ [] → g ≡ f ++ number → h ≡ g ++ 32 ∷ [] →
    i ≡ h ++ replies → j ≡ i ++ 10 ∷ [] →
    j ≡ s ++ ((((line ++ 32 ∷ worker) ++ 32 ∷ ((round ++ 46 ∷ []) ++ number)) ++ 32 ∷ replies) ++ 10 ∷ [])
parts s a b c d e f g h i j line worker round number replies ea eb ec ed ee ef eg eh ei ej =
    let p : List ℕ = line ++ 32 ∷ worker in
    let q : List ℕ = p ++ 32 ∷ ((round ++ 46 ∷ []) ++ number) in
    let b1 = more s a b line (32 ∷ []) (line ++ 32 ∷ []) ea eb refl in
    let c1 = more s b c (line ++ 32 ∷ []) worker p b1 ec (append_assoc line (32 ∷ []) worker) in
    let d1 = more s c d p (32 ∷ []) (p ++ 32 ∷ []) c1 ed refl in
    let e1 = more s d e (p ++ 32 ∷ []) round (p ++ 32 ∷ round) d1 ee (append_assoc p (32 ∷ []) round) in
    let f1 = more s e f (p ++ 32 ∷ round) (46 ∷ []) (p ++ 32 ∷ (round ++ 46 ∷ [])) e1 ef
    (append_assoc p (32 ∷ round) (46 ∷ [])) in
    let g1 = more s f g (p ++ 32 ∷ (round ++ 46 ∷ [])) number q f1 eg
    (append_assoc p (32 ∷ (round ++ 46 ∷ [])) number) in
    let h1 = more s g h q (32 ∷ []) (q ++ 32 ∷ []) g1 eh refl in
    let i1 = more s h i (q ++ 32 ∷ []) replies (q ++ 32 ∷ replies) h1 ei (append_assoc q (32 ∷ []) replies) in
    more s i j (q ++ 32 ∷ replies) (10 ∷ []) ((q ++ 32 ∷ replies) ++ 10 ∷ []) i1 ej refl

pub returns-clause-text : goal.returns-clause-text
returns-clause-text c =
    let worker = ap decimal c.from.ensures in
    parts c.args.out.now.items _ _ _ _ _ _ _ _ _ _ _ _ _ _ _ c.put_decimal.ensures.items c.push_reserved.ensures.items
    (c.put_decimal-2.ensures.items ∙ ap (λ (l : List ℕ). c.push_reserved.new.self.items ++ l) worker)
    c.push_reserved-2.ensures.items c.put_decimal-3.ensures.items c.push_reserved-3.ensures.items
    c.put_decimal-4.ensures.items c.push_reserved-4.ensures.items c.put_replies.ensures.text
    c.push_reserved-5.ensures.items
