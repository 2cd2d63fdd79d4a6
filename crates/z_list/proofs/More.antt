-- Lines behind lines that were read.
use Rattle.std.proofs.Common.{◌≡◌, ℕ, List, [], ◌∷◌, ◌++◌, sym, ap, subst, ◌∙◌, append_assoc}
use Rattle.z_list.specs.Listing.{Line}
use Rattle.z_list.specs.Texts.{texts}
use Rattle.z_list.specs.inside.Lines.{Where, Comes}
use Rattle.z_list.specs.inside.Held.{AreFit}
use Rattle.z_list.specs.inside.Read.{first_clamped}
use Rattle.z_list.proofs.Written.{texts_append}

pub comes_many : (w : Where) (at left : ℕ) (ls : List Line) (w' : Where) (at' left' : ℕ) (ks : List Line) (v : Where) (a n : ℕ) → Comes first_clamped w at left ls w' at' left' → Comes first_clamped w' at' left' ks v a n →
    Comes first_clamped w at left (ls ++ ks) v a n
comes_many w at left [] w' at' left' ks v a n c d =
    subst (λ (x : Where). Comes first_clamped x at left ks v a n) (sym c.0) (subst (λ (x : ℕ). Comes first_clamped w' x left ks v a n) (sym c.1) (subst (λ (x : ℕ). Comes first_clamped w' at' x ks v a n) (sym c.2) d))
comes_many w at left (l ∷ ls) w' at' left' ks v a n (u, i, j, g, c) d = (u, i, j, g, comes_many u i j ls w' at' left' ks v a n c d)

pub fit_many : (ls ks : List Line) → AreFit ls → AreFit ks → AreFit (ls ++ ks)
fit_many [] ks f g = g
fit_many (l ∷ ls) ks f g = (f.0, fit_many ls ks f.1 g)

pub texts_many : (ls ks : List Line) (text rest behind : List ℕ) → text ≡ texts ls ++ rest → rest ≡ texts ks ++ behind → text ≡ texts (ls ++ ks) ++ behind
texts_many ls ks text rest behind is next =
    is ∙ (ap (λ (x : List ℕ). texts ls ++ x) next ∙ (sym (append_assoc (texts ls) (texts ks) behind) ∙ ap (λ (x : List ℕ). x ++ behind) (sym (texts_append ls ks))))
