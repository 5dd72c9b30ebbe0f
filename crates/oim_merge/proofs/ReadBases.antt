-- The text of a base that equals what is read from a sent text.
use Rattle.oim_merge.proofs.Shared.{◌≡◌, ℕ, ◌<◌, List, [], ◌∷◌, length, get_or, Result, Ok, Err, sym, ap, ◌∙◌, All, Contents, outcome, Sheet, Refusal, canonical, base_of, IsTextAt, IsWritten, read_as}
use Rattle.oim_merge.proofs.Histories.{texts_give_bodies}

read_or : Contents → Result Contents Refusal → Contents
read_or base (Ok read) = read
read_or base (Err refusal) = base

pub is_its_text : (sheet : Sheet) (texts : List (List ℕ)) (index : ℕ) (read base : Contents) → index < length texts → All (IsWritten sheet) texts →
    Ok read ≡ read_as sheet (outcome sheet (get_or texts index [])) → base.body ≡ read.body → IsTextAt texts (canonical base.body) index
unfolding read_or
is_its_text sheet texts index read base within written is same =
    let text = written index [] within in
    let back = texts_give_bodies sheet text.body text.fits in
    let said = ap (outcome sheet) text.written ∙ back.read in
    let found : Ok read ≡ Ok (base_of sheet (back.document ∷ [])) = is ∙ ap (read_as sheet) said in
    let bodies = ap (λ r. (read_or read r).body) found ∙ back.same in
    (within, text.written ∙ ap canonical (sym bodies ∙ sym same))
