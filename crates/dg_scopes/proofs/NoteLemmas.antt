-- What is noted at one step, and a name that comes to a scope.
use Rattle.std.proofs.Common.{◌≡◌, ◌+◌, ◌<◌, ◌≤◌, ◌∙◌, ◌||◌, ℕ, zero, suc, List, [], ◌∷◌, ◌++◌, Bool, true, false, Vec, Global, length, get_or, set, refl, sym, ap, arith}
use Rattle.std.specs.Prelude.{if◌then◌else◌}
use Rattle.std.specs.Str.{bytes_eq}
use Rattle.std.proofs.lemmas.List.{map-append, length-map}
use Rattle.dg_base.specs.Walk.{Met, closes, mention_view}
use Rattle.dg_base.specs.declared.mentions.Mention.{Mention}
use Rattle.dg_base.specs.declared.mentions.Mention.TheVariants as mention
use Rattle.dg_scopes.specs.Scopes as spec
use Rattle.dg_scopes.specs.Scopes.{entry, with_places, place_of, is_full, merged, passes}
use Rattle.dg_scopes.specs.State.{entry_view, scope_view, stack_of}
use Rattle.dg_scopes.specs.declared.variables.Entry.{Entry}
use Rattle.dg_scopes.proofs.EntryLemmas.{hit, miss}

pub stack_push : (ss : List (Vec Entry Global)) (s : Vec Entry Global) → stack_of (ss ++ s ∷ []) ≡ scope_view s.items ∷ stack_of ss
stack_push [] s = refl
stack_push (t ∷ ss) s = ap (λ (l : List (List spec.Entry)). l ++ scope_view t.items ∷ []) (stack_push ss s)

pub noted_closed : (total : List ℕ → ℕ) (old new : List (Vec Entry Global)) (o : Vec Entry Global) (s m : List spec.Entry) (over : Bool) → old ≡ new ++ o ∷ [] → m ≡ merged total (scope_view o.items) s → over ≡ is_full m → (ms : List Met) → passes total (closes ∷ ms) s (stack_of old) ≡ (over || passes total ms m (stack_of new))
noted_closed total old new o s m over outer inner full ms =
    ap (passes total (closes ∷ ms) s) (ap stack_of outer ∙ stack_push new o)
    ∙ ap (λ (x : List spec.Entry). is_full x || passes total ms x (stack_of new)) (sym inner)
    ∙ ap (λ (b : Bool). b || passes total ms m (stack_of new)) (sym full)

-- ---- the entry of a name

behind_if : (e : spec.Entry) (es : List spec.Entry) (n : List ℕ) (k at : ℕ) (b : Bool) → bytes_eq n e.name ≡ b → (if b then 0 else place_of es n + 1) ≡ at → length es + 1 ≤ at → (length es ≤ place_of es n → with_places es n k ≡ es ++ entry n k ∷ []) → with_places (e ∷ es) n k ≡ e ∷ es ++ entry n k ∷ []
behind_if e es n k at true q is le ih = absurd (omega (arith, is, le))
behind_if e es n k at false q is le ih = miss e es n k q ∙ ap (λ (l : List spec.Entry). e ∷ l) (ih (omega (arith, is, le)))

behind : (es : List spec.Entry) (n : List ℕ) (k : ℕ) → length es ≤ place_of es n → with_places es n k ≡ es ++ entry n k ∷ []
behind [] n k le = refl
behind (e ∷ es) n k le = behind_if e es n k (place_of (e ∷ es) n) (bytes_eq n e.name) refl refl (omega (arith, le)) (behind es n k)

abbrev changed : Entry → ℕ → Entry
changed e places = record { name = e.name; places = places }

put_here : (e x y : Entry) (es : List Entry) (k p : ℕ) → x ≡ e → y ≡ e → p ≡ y.places + k → (entry_view (changed x p) ∷ scope_view es) ≡ (entry e.name.now (e.places + k) ∷ scope_view es)
put_here e x y es k p ex ey is =
    ap (λ (z : Entry). entry z.name.now p ∷ scope_view es) ex
    ∙ ap (λ (q : ℕ). entry e.name.now q ∷ scope_view es) (is ∙ ap (λ (z : Entry). z.places + k) ey)

put_if : (e x y : Entry) (es : List Entry) (n : List ℕ) (k p at : ℕ) (b : Bool) → bytes_eq n e.name.now ≡ b → (if b then 0 else place_of (scope_view es) n + 1) ≡ at → at < length (e ∷ es) → x ≡ get_or (e ∷ es) at x → y ≡ get_or (e ∷ es) at y → p ≡ y.places + k → ((at' : ℕ) → place_of (scope_view es) n ≡ at' → at' < length es → x ≡ get_or es at' x → y ≡ get_or es at' y → scope_view (set es at' (changed x p)) ≡ with_places (scope_view es) n k) → scope_view (set (e ∷ es) at (changed x p)) ≡ with_places (scope_view (e ∷ es)) n k
put_if e x y es n k p zero true q at lt ex ey is ih = put_here e x y es k p ex ey is ∙ sym (hit (entry_view e) (scope_view es) n k q)
put_if e x y es n k p zero false q at lt ex ey is ih = absurd (omega (arith, at))
put_if e x y es n k p (suc at') true q at lt ex ey is ih = absurd (omega (arith, at))
put_if e x y es n k p (suc at') false q at lt ex ey is ih =
    ap (λ (l : List spec.Entry). entry_view e ∷ l) (ih at' (omega (arith, at)) (omega (arith, lt)) ex ey)
    ∙ sym (miss (entry_view e) (scope_view es) n k q)

pub put_at : (es : List Entry) (x y : Entry) (n : List ℕ) (k p at : ℕ) → p ≡ y.places + k → place_of (scope_view es) n ≡ at → at < length es → x ≡ get_or es at x → y ≡ get_or es at y → scope_view (set es at (record { name = x.name; places = p })) ≡ with_places (scope_view es) n k
put_at [] x y n k p at is place lt ex ey = absurd (omega (arith, lt))
put_at (e ∷ es) x y n k p at is place lt ex ey = put_if e x y es n k p at (bytes_eq n e.name.now) refl place lt ex ey is (λ at' place' lt' ex' ey'. put_at es x y n k p at' is place' lt' ex' ey')

pub put_behind : (es : List Entry) (new : Entry) (at : ℕ) → at ≡ place_of (scope_view es) new.name.now → length es ≤ at → scope_view (es ++ new ∷ []) ≡ with_places (scope_view es) new.name.now new.places
put_behind es new at place le =
    map-append entry_view es (new ∷ [])
    ∙ sym (behind (scope_view es) new.name.now new.places (omega (arith, place, le, length-map es entry_view)))

-- a mention of no variable and of no closure
pub still : (m : Mention) → ((n : _) → m ≡ Mention.Variable n → ⊥) → (m ≡ Mention.Opened → ⊥) → (m ≡ Mention.Closed → ⊥) → (total : List ℕ → ℕ) (s : List spec.Entry) (outer : List (List spec.Entry)) (ms : List Met) → passes total (mention_view m ∷ ms) s outer ≡ passes total ms s outer
still (mention.Variable n) v o c total s outer ms = absurd (v n refl)
still mention.Opened v o c total s outer ms = absurd (o refl)
still mention.Closed v o c total s outer ms = absurd (c refl)
still m v o c total s outer ms = refl
