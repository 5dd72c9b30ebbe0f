use Rattle.oim_report.proofs.Shared.{rules, ◌≡◌, Option, Some, None, IsSome, refl, sym, ap, ◌∙◌, Json, document, alone}
use Rattle.oim_report.proofs.pieces.piece_tape.parse_piece.Goals as goal

one_value : (o : Option Json) → IsSome o → (v : Json) × (o ≡ Some v)
one_value None h = absurd (Prim.cc)
one_value (Some v) h = (v, refl)

pub returns : goal.returns
returns c =
    let text = c.as_str.result.now in
    let filled : text ≡ alone c.args.piece.now = search rules in
    let v = one_value (document text) c.in_ok-parse.ensures.ok.1 in
    (v.0, ap document (sym filled) ∙ v.1, c.in_ok-parse.ensures.value v.0 v.1)
