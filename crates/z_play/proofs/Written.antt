-- What a sink took, text by text.
use Rattle.std.proofs.Common.{ℕ, List, ◌++◌, Result, Ok, Err, OnOk, OnErr, refl, sym, subst}
use Rattle.dg_base.specs.Written.{SinkView, Wrote, BrokeOff}
use Rattle.dg_base.proofs.WrittenLemmas.{broke_later}
use Rattle.z_play.specs.Output.{BrokeBehind}

pub broke_after : (old mid new : SinkView) (xs ys : List ℕ) → Wrote old mid xs → BrokeOff mid new ys → BrokeBehind old new xs (xs ++ ys)
broke_after old mid new xs ys w b = record { mid = mid; rest = ys; is = refl; wrote = w; broke = b }

-- the same, with nothing said of the beginning
pub broke_whole : (old new : SinkView) (xs text : List ℕ) → BrokeBehind old new xs text → BrokeOff old new text
broke_whole old new xs text b = subst (λ (l : List ℕ). BrokeOff old new l) (sym b.is) (broke_later old b.mid new xs b.rest b.wrote b.broke)

-- ---- answers

pub on_ok : {T E : Type 0} (r : Result T E) (P Q : Type 0) → OnOk r P → (P → Q) → OnOk r Q
on_ok (Ok b) P Q p f = f p
on_ok (Err failed) P Q p f = p

pub on_err : {T E : Type 0} (r : Result T E) (P Q : Type 0) → OnErr r P → (P → Q) → OnErr r Q
on_err (Ok b) P Q p f = p
on_err (Err failed) P Q p f = f p
