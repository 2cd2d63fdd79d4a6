-- What holds of each thing that is mentioned holds in each part.
use Rattle.std.proofs.Common.{List, [], ◌∷◌, ◌++◌}
use Rattle.std.specs.List.{All}
use Rattle.std.proofs.lemmas.List.Elements.{All-nil, All-cons, All-head, All-tail}
use Rattle.dg_base.specs.Mentions.{Thing, closure, Mentions, nothing, thing, closed, join, things}

pub all_front : {X : Type 0} (P : X → Type 0) (xs ys : List X) → All P (xs ++ ys) → All P xs
all_front P [] ys h = All-nil P
all_front P (x ∷ xs) ys h = All-cons P x xs (All-head P x (xs ++ ys) h) (all_front P xs ys (All-tail P x (xs ++ ys) h))

pub all_behind : {X : Type 0} (P : X → Type 0) (xs ys : List X) → All P (xs ++ ys) → All P ys
all_behind P [] ys h = h
all_behind P (x ∷ xs) ys h = all_behind P xs ys (All-tail P x (xs ++ ys) h)

-- each of these mentions that stands in no closure
abbrev pub Hold : (Thing → Type 0) → Mentions → Type 0
Hold P nothing = Unit {0}
Hold P (thing t ms) = P t × Hold P ms
Hold P (closed inner ms) = Hold P ms

pub front : (P : Thing → Type 0) (a b : Mentions) → Hold P (join a b) → Hold P a
front P nothing b h = tt
front P (thing t ms) b h = (h.0, front P ms b h.1)
front P (closed inner ms) b h = front P ms b h

pub back : (P : Thing → Type 0) (a b : Mentions) → Hold P (join a b) → Hold P b
back P nothing b h = h
back P (thing t ms) b h = back P ms b h.1
back P (closed inner ms) b h = back P ms b h

pub from_all : (P : Thing → Type 0) (ms : Mentions) → All P (things ms) → Hold P ms
from_all P nothing h = tt
from_all P (thing t ms) h = (All-head P t (things ms) h, from_all P ms (All-tail P t (things ms) h))
from_all P (closed inner ms) h = from_all P ms (all_behind P (things inner) (things ms) (All-tail P closure (things inner ++ things ms) h))
