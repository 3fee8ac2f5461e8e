-- What a trie's links lead to, and where its least and greatest keys stand, and the next ones to another key.
use Rattle.std.proofs.Common.{◌≡◌, ◌∙◌, ℕ, ◌+◌, ◌-◌, ◌*◌, ◌/◌, ◌^◌, ◌<◌, ◌≤◌, true, false, ap, arith, sym, inl, inr}
use Rattle.std.specs.Prelude.{Option, None, Some}
use Rattle.std.proofs.Math.Nat.{div-div-eq-div-mul, div-mul-le_self, lt-div-mul-add, mul-div_cancel, mul-le-mul_right}
use Rattle.std.proofs.lemmas.Nat.{pow-add, pow_pos}
use Rattle.dstm_structures.specs.Orders.{Trie, tip, fork, Has, Below, Holds, IsEdge, IsNext, IsPrevious, link_in, link_to}
use Rattle.dstm_structures.specs.declared.order.Link.{Link}
use Rattle.dstm_structures.specs.declared.order.Link.TheVariants.{Nothing, Tip, Fork}

-- ---- what links lead to

abbrev pub leads : Trie → Link
leads (tip p k) = Tip p
leads (fork p j q l r) = Fork p

pub link-tip : (n p : ℕ) → p < n → link_in n (2 * p + 1) ≡ Tip p
link-tip n p here = grind arith

pub link-fork : (n p : ℕ) → p < n → link_in n (2 * p + 2) ≡ Fork p
link-fork n p here = grind arith

pub leads-to : (n : ℕ) (keys : ℕ → Option ℕ) (forks : ℕ → ℕ × ℕ) (t : Trie) → Holds n keys forks t →
    link_in n (link_to t) ≡ leads t
leads-to n keys forks (tip p k) held = link-tip n p held.0
leads-to n keys forks (fork p j q l r) held = link-fork n p held.0

pub tip-not-fork : (a b : ℕ) → Tip a ≡ Fork b → ⊥
tip-not-fork a b same = cc

pub tip-not-nothing : (a : ℕ) → Nothing ≡ Tip a → ⊥
tip-not-nothing a same = cc

pub fork-not-nothing : (a : ℕ) → Nothing ≡ Fork a → ⊥
fork-not-nothing a same = cc

pub tip-same : (a b : ℕ) → Tip a ≡ Tip b → a ≡ b
tip-same a b same = cc

pub fork-same : (a b : ℕ) → Fork a ≡ Fork b → a ≡ b
fork-same a b same = cc

-- ---- keys by their bits

pub less-by : (a b j : ℕ) → a / 2 ^ j < b / 2 ^ j → a < b
less-by a b j less =
    let m : ℕ = 2 ^ j in
    let low : a < a / 2 ^ j * 2 ^ j + 2 ^ j = lt-div-mul-add (pow_pos j) in
    let high : b / 2 ^ j * 2 ^ j ≤ b = div-mul-le_self b (2 ^ j) in
    let more : (a / 2 ^ j + 1) * 2 ^ j ≤ b / 2 ^ j * 2 ^ j = mul-le-mul_right (2 ^ j) (omega (arith, less)) in
    omega (arith, low, high, more)

-- the bits of a key from the next level on
pub halve : (k j q bit : ℕ) → bit < 2 → k / 2 ^ j ≡ 2 * q + bit → k / 2 ^ (j + 1) ≡ q
halve k j q bit small is =
    ap (λ (x : ℕ). k / x) (pow-add 2 j 1) ∙ sym (div-div-eq-div-mul k (2 ^ j) 2) ∙ ap (λ (x : ℕ). x / 2) is
    ∙ omega (arith, small)

further : (k q j under : ℕ) → j < under → k / 2 ^ (j + 1) ≡ q → k / 2 ^ under ≡ (q * 2 ^ (j + 1)) / 2 ^ under
further k q j under low is =
    let d : ℕ = under - (j + 1) in
    let e : under ≡ j + 1 + d = omega (arith, low) in
    let split : (x : ℕ) → x / 2 ^ under ≡ x / 2 ^ (j + 1) / 2 ^ d =
    λ x. ap (λ (y : ℕ). x / 2 ^ y) e ∙ ap (λ (y : ℕ). x / y) (pow-add 2 (j + 1) d)
    ∙ sym (div-div-eq-div-mul x (2 ^ (j + 1)) (2 ^ d)) in
    split k ∙ ap (λ (x : ℕ). x / 2 ^ d) is
    ∙ sym (split (q * 2 ^ (j + 1)) ∙ ap (λ (x : ℕ). x / 2 ^ d) (mul-div_cancel q (pow_pos (j + 1))))

-- all keys of a trie have its bits
pub below-key : (under bits : ℕ) (t : Trie) → Below under bits t → (at k : ℕ) → Has at k t → k / 2 ^ under ≡ bits
below-key under bits (tip p own) b at k h = ap (λ (x : ℕ). x / 2 ^ under) (sym h.1) ∙ b
below-key under bits (fork p j q l r) b at k (inl h) =
    further k q j under b.0 (halve k j q 0 (omega arith) (below-key j (2 * q) l b.2 at k h ∙ omega arith)) ∙ b.1
below-key under bits (fork p j q l r) b at k (inr h) =
    further k q j under b.0 (halve k j q 1 (omega arith) (below-key j (2 * q + 1) r b.3 at k h)) ∙ b.1

-- ---- least and greatest keys

module _ (under bits p j q : ℕ) (l r : Trie) (b : Below under bits (fork p j q l r)) where
  left-is : (at k : ℕ) → Has at k l → k / 2 ^ j ≡ 2 * q
  left-is at k h = below-key j (2 * q) l b.2 at k h

  right-is : (at k : ℕ) → Has at k r → k / 2 ^ j ≡ 2 * q + 1
  right-is at k h = below-key j (2 * q + 1) r b.3 at k h

  -- the keys on the left are below those on the right
  apart : (a k c m : ℕ) → Has a k l → Has c m r → k < m
  apart a k c m h g = less-by k m j (omega (arith, left-is a k h, right-is c m g))

  pub edge-left : (answer : Option ℕ) → IsEdge false answer l → IsEdge false answer (fork p j q l r)
  edge-left None e = absurd e
  edge-left (Some at) e = (e.0, inl e.1, least)
    where
      least : (a k : ℕ) → Has a k (fork p j q l r) → e.0 ≤ k
      least a k (inl h) = e.2 a k h
      least a k (inr h) = omega (arith, apart at e.0 a k e.1 h)

  pub edge-right : (answer : Option ℕ) → IsEdge true answer r → IsEdge true answer (fork p j q l r)
  edge-right None e = absurd e
  edge-right (Some at) e = (e.0, inr e.1, greatest)
    where
      greatest : (a k : ℕ) → Has a k (fork p j q l r) → k ≤ e.0
      greatest a k (inl h) = omega (arith, apart a k at e.0 h e.1)
      greatest a k (inr h) = e.2 a k h

  -- ---- the least key above another one

  module _ (key part : ℕ) (part_is : part ≡ key / 2 ^ j) where
    -- a key of the trie with more bits is above, and one with less below
    more-above : (k : ℕ) → part < k / 2 ^ j → key < k
    more-above k more = less-by key k j (omega (arith, more, part_is))

    less-below : (k : ℕ) → k / 2 ^ j < part → k < key
    less-below k less = less-by k key j (omega (arith, less, part_is))

    -- all keys are above
    pub next-all : (answer : Option ℕ) → part / 2 < q → IsEdge false answer l → IsNext key answer (fork p j q l r)
    next-all None less e = absurd e
    next-all (Some at) less e = (e.0, inl e.1, more-above e.0 (omega (arith, less, left-is at e.0 e.1)), least)
      where
        least : (a k : ℕ) → Has a k (fork p j q l r) → key < k → e.0 ≤ k
        least a k (inl h) above = e.2 a k h
        least a k (inr h) above = omega (arith, apart at e.0 a k e.1 h)

    -- none is
    pub next-none : q < part / 2 → IsNext key None (fork p j q l r)
    next-none more a k (inl h) = omega (arith, less-below k (omega (arith, more, left-is a k h)))
    next-none more a k (inr h) = omega (arith, less-below k (omega (arith, more, right-is a k h)))

    -- no key on the left is
    pub next-right : (answer : Option ℕ) → part ≡ 2 * q + 1 → IsNext key answer r → IsNext key answer (fork p j q l r)
    next-right None is next = most
      where
        most : (a k : ℕ) → Has a k (fork p j q l r) → k ≤ key
        most a k (inl h) = omega (arith, less-below k (omega (arith, is, left-is a k h)))
        most a k (inr h) = next a k h
    next-right (Some at) is next = (next.0, inr next.1, next.2, least)
      where
        least : (a k : ℕ) → Has a k (fork p j q l r) → key < k → next.0 ≤ k
        least a k (inl h) above = absurd (omega (arith, above, less-below k (omega (arith, is, left-is a k h))))
        least a k (inr h) above = next.3 a k h above

    -- one on the left is
    pub next-left : (at : ℕ) → part ≡ 2 * q → IsNext key (Some at) l → IsNext key (Some at) (fork p j q l r)
    next-left at is next = (next.0, inl next.1, next.2, least)
      where
        least : (a k : ℕ) → Has a k (fork p j q l r) → key < k → next.0 ≤ k
        least a k (inl h) above = next.3 a k h above
        least a k (inr h) above = omega (arith, apart at next.0 a k next.1 h)

    -- none on the left is, and so the least on the right
    pub next-later : (answer : Option ℕ) → part ≡ 2 * q → IsNext key None l → IsEdge false answer r →
        IsNext key answer (fork p j q l r)
    next-later None is none e = absurd e
    next-later (Some at) is none e =
        (e.0, inr e.1, more-above e.0 (omega (arith, is, right-is at e.0 e.1)), least)
      where
        least : (a k : ℕ) → Has a k (fork p j q l r) → key < k → e.0 ≤ k
        least a k (inl h) above = absurd (omega (arith, above, none a k h))
        least a k (inr h) above = e.2 a k h

    -- ---- the greatest key below another one

    -- all keys are below
    pub previous-all : (answer : Option ℕ) → q < part / 2 → IsEdge true answer r → IsPrevious key answer (fork p j q l r)
    previous-all None more e = absurd e
    previous-all (Some at) more e = (e.0, inr e.1, less-below e.0 (omega (arith, more, right-is at e.0 e.1)), greatest)
      where
        greatest : (a k : ℕ) → Has a k (fork p j q l r) → k < key → k ≤ e.0
        greatest a k (inl h) below = omega (arith, apart a k at e.0 h e.1)
        greatest a k (inr h) below = e.2 a k h

    -- none is
    pub previous-none : part / 2 < q → IsPrevious key None (fork p j q l r)
    previous-none less a k (inl h) = omega (arith, more-above k (omega (arith, less, left-is a k h)))
    previous-none less a k (inr h) = omega (arith, more-above k (omega (arith, less, right-is a k h)))

    -- no key on the right is
    pub previous-left : (answer : Option ℕ) → part ≡ 2 * q → IsPrevious key answer l →
        IsPrevious key answer (fork p j q l r)
    previous-left None is before = least
      where
        least : (a k : ℕ) → Has a k (fork p j q l r) → key ≤ k
        least a k (inl h) = before a k h
        least a k (inr h) = omega (arith, more-above k (omega (arith, is, right-is a k h)))
    previous-left (Some at) is before = (before.0, inl before.1, before.2, greatest)
      where
        greatest : (a k : ℕ) → Has a k (fork p j q l r) → k < key → k ≤ before.0
        greatest a k (inl h) below = before.3 a k h below
        greatest a k (inr h) below = absurd (omega (arith, below, more-above k (omega (arith, is, right-is a k h))))

    -- one on the right is
    pub previous-right : (at : ℕ) → part ≡ 2 * q + 1 → IsPrevious key (Some at) r →
        IsPrevious key (Some at) (fork p j q l r)
    previous-right at is before = (before.0, inr before.1, before.2, greatest)
      where
        greatest : (a k : ℕ) → Has a k (fork p j q l r) → k < key → k ≤ before.0
        greatest a k (inl h) below = omega (arith, apart a k at before.0 h before.1)
        greatest a k (inr h) below = before.3 a k h below

    -- none on the right is, and so the greatest on the left
    pub previous-earlier : (answer : Option ℕ) → part ≡ 2 * q + 1 → IsPrevious key None r → IsEdge true answer l →
        IsPrevious key answer (fork p j q l r)
    previous-earlier None is none e = absurd e
    previous-earlier (Some at) is none e =
        (e.0, inl e.1, less-below e.0 (omega (arith, is, left-is at e.0 e.1)), greatest)
      where
        greatest : (a k : ℕ) → Has a k (fork p j q l r) → k < key → k ≤ e.0
        greatest a k (inl h) below = e.2 a k h
        greatest a k (inr h) below = absurd (omega (arith, below, none a k h))
