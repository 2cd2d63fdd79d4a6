-- What holds of signs that are told apart.
use Rattle.std.proofs.Common.{◌≡◌, ◌&&◌, List, Bool, true, map, sym, ◌∙◌, ap}
use Rattle.std.specs.Prelude.{Result, Ok, Err, IfOk}
use Rattle.std.specs.declared.alloc.AllocError.{AllocError}
use denote.Enum.Bare.{sameb}
use Rattle.dg_base.specs.Tree.{Parts, parts_of}
use Rattle.dg_base.specs.TreeView.{part_view, head_view, body_view}
use Rattle.dg_base.specs.declared.tree.Body.{Body}
use Rattle.dg_base.specs.declared.tree.Head.{Head}
use Rattle.dg_base.specs.declared.tree.Part.{Part}
use Rattle.dg_open.specs.inside.Views.{sign_view}
use Rattle.dg_reader.specs.Heads.{is_unsigned, is_empty_body, declared_query, declares_query, keeps_declaration_rules}
use Rattle.dg_open.specs.declared.frames.Sign.{Sign}
use Rattle.dg_open.specs.declared.frames.Sign.TheVariants as sign
use Rattle.dg_open.specs.contracts.frames.Sign.{the_type}
use Rattle.dg_reader.proofs.Views.{head_seen}

plain_unsigned : (s : Sign) (plain : Bool) → plain ≡ sameb the_type s sign.Plain → plain ≡ true → true ≡ is_unsigned (sign_view s)
plain_unsigned sign.Plain plain e holds = sym holds ∙ e
plain_unsigned sign.Negated plain e holds = sym holds ∙ e
plain_unsigned sign.Access plain e holds = sym holds ∙ e

-- a declaration without a sign and a body
pub unsigned_empty : (s : Sign) (h : Head) (b : Body) (ps : List Part) (plain empty : Bool) (r : Result Bool AllocError) → plain ≡ sameb the_type s sign.Plain → plain ≡ true → empty ≡ is_empty_body (body_view b) → empty ≡ true → ps ≡ h.parts → IfOk r (λ d. d ≡ declares_query (declared_query (parts_of (map part_view ps)))) → IfOk r (λ k. k ≡ keeps_declaration_rules (sign_view s) (head_view h) (body_view b))
unsigned_empty s h b ps plain empty (Err e) is_plain holds is_empty holds_too same d = tt
unsigned_empty s h b ps plain empty (Ok k) is_plain holds is_empty holds_too same d =
    let fits = declares_query (declared_query (head_view h)) in
    d ∙ ap (λ (l : List Part). declares_query (declared_query (parts_of (map part_view l)))) same
    ∙ ap (λ (p : Parts). declares_query (declared_query p)) (sym (head_seen h))
    ∙ ap (λ (x : Bool). x && fits) (sym holds_too ∙ is_empty)
    ∙ ap (λ (x : Bool). (x && is_empty_body (body_view b)) && fits) (plain_unsigned s plain is_plain holds)
