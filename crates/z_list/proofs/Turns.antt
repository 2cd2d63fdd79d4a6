-- Lines that go on: they stand at the place, the bytes left are fewer by theirs, and each leads to one state.
use Rattle.std.proofs.Common.{◌≡◌, ℕ, ◌+◌, ◌≤◌, List, [], ◌∷◌, ◌++◌, length, Option, refl, sym, subst, ◌∙◌, arith}
use Rattle.std.proofs.lemmas.List.{take_at, drop_at}
use Rattle.z_list.specs.Listing.{Line, Data, Rule, Locals, Does, End}
use Rattle.z_list.specs.inside.Lines.{Where, Outside, Named, Inside, Behind, Goes, IsOutside, Accepts, Comes}
use Rattle.z_list.specs.inside.Held.{bytes_in, bytes_of, place_in, HaveNumbers, AreFit}
use Rattle.z_list.proofs.Instructions.{Small, small_take, small_drop}

pub small_front : (xs ys : List ℕ) → Small (xs ++ ys) → Small xs
small_front xs ys h = subst Small (take_at xs ys (length xs) refl) (small_take (length xs) (xs ++ ys) h)

pub small_rest : (xs ys : List ℕ) → Small (xs ++ ys) → Small ys
small_rest xs ys h = subst Small (drop_at xs ys (length xs) refl) (small_drop (length xs) (xs ++ ys) h)

module _ (first : List ℕ → Option ℕ) where
  pub goes_place : (w : Where) (at left : ℕ) (l : Line) (v : Where) (a' n' : ℕ) → Goes first w at left l v a' n' → place_in l ≡ at
  goes_place (Outside full) at left (Data a bs) v a' n' g = g.1.here
  goes_place (Outside full) at left (Rule a p q) v a' n' g = g.0.0
  goes_place (Outside full) at left (Locals a b) v a' n' g = absurd g
  goes_place (Outside full) at left (Does a bs) v a' n' g = absurd g
  goes_place (Outside full) at left (End a) v a' n' g = absurd g
  goes_place Named at left (Data a bs) v a' n' g = absurd g
  goes_place Named at left (Rule a p q) v a' n' g = absurd g
  goes_place Named at left (Locals a b) v a' n' g = g.0
  goes_place Named at left (Does a bs) v a' n' g = absurd g
  goes_place Named at left (End a) v a' n' g = absurd g
  goes_place Inside at left (Data a bs) v a' n' g = g.0.here
  goes_place Inside at left (Rule a p q) v a' n' g = absurd g
  goes_place Inside at left (Locals a b) v a' n' g = absurd g
  goes_place Inside at left (Does a bs) v a' n' g = g.0
  goes_place Inside at left (End a) v a' n' g = g.0.0
  goes_place (Behind full since) at left (Data a bs) v a' n' g = g.1.here
  goes_place (Behind full since) at left (Rule a p q) v a' n' g = absurd g
  goes_place (Behind full since) at left (Locals a b) v a' n' g = absurd g
  goes_place (Behind full since) at left (Does a bs) v a' n' g = absurd g
  goes_place (Behind full since) at left (End a) v a' n' g = g.0.0

  pub goes_sum : (w : Where) (at left : ℕ) (l : Line) (v : Where) (a' n' : ℕ) → Goes first w at left l v a' n' → a' + n' ≡ at + left
  goes_sum (Outside full) at left (Data a bs) v a' n' g = omega (arith, g.1.next, g.1.rest)
  goes_sum (Outside full) at left (Rule a p q) v a' n' g = omega (arith, g.0.1, g.0.2)
  goes_sum (Outside full) at left (Locals a b) v a' n' g = absurd g
  goes_sum (Outside full) at left (Does a bs) v a' n' g = absurd g
  goes_sum (Outside full) at left (End a) v a' n' g = absurd g
  goes_sum Named at left (Data a bs) v a' n' g = absurd g
  goes_sum Named at left (Rule a p q) v a' n' g = absurd g
  goes_sum Named at left (Locals a b) v a' n' g = omega (arith, g.1, g.2)
  goes_sum Named at left (Does a bs) v a' n' g = absurd g
  goes_sum Named at left (End a) v a' n' g = absurd g
  goes_sum Inside at left (Data a bs) v a' n' g = omega (arith, g.0.next, g.0.rest)
  goes_sum Inside at left (Rule a p q) v a' n' g = absurd g
  goes_sum Inside at left (Locals a b) v a' n' g = absurd g
  goes_sum Inside at left (Does a bs) v a' n' g = omega (arith, g.1, g.2)
  goes_sum Inside at left (End a) v a' n' g = omega (arith, g.0.1, g.0.2)
  goes_sum (Behind full since) at left (Data a bs) v a' n' g = omega (arith, g.1.next, g.1.rest)
  goes_sum (Behind full since) at left (Rule a p q) v a' n' g = absurd g
  goes_sum (Behind full since) at left (Locals a b) v a' n' g = absurd g
  goes_sum (Behind full since) at left (Does a bs) v a' n' g = absurd g
  goes_sum (Behind full since) at left (End a) v a' n' g = omega (arith, g.0.1, g.0.2)

  pub goes_same : (w : Where) (at left : ℕ) (l : Line) (v : Where) (a' n' : ℕ) (u : Where) (b' m' : ℕ) → Goes first w at left l v a' n' → Goes first w at left l u b' m' →
      (v ≡ u) × (a' ≡ b') × (n' ≡ m')
  goes_same (Outside full) at left (Data a bs) v a' n' u b' m' g h = (g.2 ∙ sym h.2, g.1.next ∙ sym h.1.next, omega (arith, g.1.rest, h.1.rest))
  goes_same (Outside full) at left (Rule a p q) v a' n' u b' m' g h = (g.2 ∙ sym h.2, g.0.1 ∙ sym h.0.1, g.0.2 ∙ sym h.0.2)
  goes_same (Outside full) at left (Locals a b) v a' n' u b' m' g h = absurd g
  goes_same (Outside full) at left (Does a bs) v a' n' u b' m' g h = absurd g
  goes_same (Outside full) at left (End a) v a' n' u b' m' g h = absurd g
  goes_same Named at left (Data a bs) v a' n' u b' m' g h = absurd g
  goes_same Named at left (Rule a p q) v a' n' u b' m' g h = absurd g
  goes_same Named at left (Locals a b) v a' n' u b' m' g h = (g.3 ∙ sym h.3, g.1 ∙ sym h.1, omega (arith, g.2, h.2))
  goes_same Named at left (Does a bs) v a' n' u b' m' g h = absurd g
  goes_same Named at left (End a) v a' n' u b' m' g h = absurd g
  goes_same Inside at left (Data a bs) v a' n' u b' m' g h = (g.2 ∙ sym h.2, g.0.next ∙ sym h.0.next, omega (arith, g.0.rest, h.0.rest))
  goes_same Inside at left (Rule a p q) v a' n' u b' m' g h = absurd g
  goes_same Inside at left (Locals a b) v a' n' u b' m' g h = absurd g
  goes_same Inside at left (Does a bs) v a' n' u b' m' g h = (g.4 ∙ sym h.4, g.1 ∙ sym h.1, omega (arith, g.2, h.2))
  goes_same Inside at left (End a) v a' n' u b' m' g h = (g.1 ∙ sym h.1, g.0.1 ∙ sym h.0.1, g.0.2 ∙ sym h.0.2)
  goes_same (Behind full since) at left (Data a bs) v a' n' u b' m' g h = (g.3 ∙ sym h.3, g.1.next ∙ sym h.1.next, omega (arith, g.1.rest, h.1.rest))
  goes_same (Behind full since) at left (Rule a p q) v a' n' u b' m' g h = absurd g
  goes_same (Behind full since) at left (Locals a b) v a' n' u b' m' g h = absurd g
  goes_same (Behind full since) at left (Does a bs) v a' n' u b' m' g h = absurd g
  goes_same (Behind full since) at left (End a) v a' n' u b' m' g h = (g.1 ∙ sym h.1, g.0.1 ∙ sym h.0.1, g.0.2 ∙ sym h.0.2)

  pub accepts_fit : (w : Where) (at left : ℕ) (ls : List Line) → Accepts first w at left ls → at + left ≤ 524288 → Small (bytes_of ls) → HaveNumbers ls → AreFit ls
  accepts_fit w at left [] a few small numbers = tt
  accepts_fit w at left (l ∷ ls) (v, a', n', g, a) few small numbers = (
    record { place = omega (arith, goes_place w at left l v a' n' g, few); bytes = small_front (bytes_in l) (bytes_of ls) small; numbers = numbers.0 },
    accepts_fit v a' n' ls a (omega (arith, goes_sum w at left l v a' n' g, few)) (small_rest (bytes_in l) (bytes_of ls) small) numbers.1,
  )

  -- where accepted lines lead
  pub record Ended (w : Where) (at left : ℕ) (ls : List Line) : Type 0 where
    pub end : Where
    pub place : ℕ
    pub outside : IsOutside first end
    pub comes : Comes first w at left ls end place 0

  pub accepts_comes : (w : Where) (at left : ℕ) (ls : List Line) → Accepts first w at left ls → Ended w at left ls
  accepts_comes w at left [] a = record { end = w; place = at; outside = a.0; comes = (refl, refl, a.1) }
  accepts_comes w at left (l ∷ ls) (v, a', n', g, a) =
      let more = accepts_comes v a' n' ls a in
      record { end = more.end; place = more.place; outside = more.outside; comes = (v, a', n', g, more.comes) }
