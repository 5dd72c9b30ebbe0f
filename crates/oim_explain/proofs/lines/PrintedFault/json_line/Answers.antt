use Rattle.std.proofs.Common.{◌++◌, ap, ◌∙◌}
use Rattle.json.specs.Print.{print}
use Rattle.oim_explain.specs.Lines.{object_end, object_front}
use Rattle.oim_explain.specs.code.Added.{of_fault}
use Rattle.oim_explain.proofs.Appended.{tokens_one, tokens_then}
use Rattle.oim_explain.proofs.lines.PrintedFault.json_line.Goals as goal

pub written_text-requires : goal.written_text-requires
written_text-requires c =
    c.in_ok-end_object.ensures.room.0 ∙ c.in_ok-put_text.ensures.before ∙ c.in_ok-put_part.ensures.1.before ∙ c.in_ok-key.ensures.room.0
    ∙ c.in_ok-put_front.ensures.before ∙ c.new-writer.ensures.before ∙ c.new.ensures.items

pub returns : goal.returns
returns c =
    let part = c.in_ok-put_part.ensures in
    let rest = object_end part.0 c.args.self.now.sentence.now in
    let front = object_front c.args.input.now (of_fault c.args.self.now) in
    let all = tokens_then c.in_ok-put_front.ensures
    (tokens_then (tokens_one c.in_ok-key.ensures) (tokens_then part.1 (tokens_then c.in_ok-put_text.ensures (tokens_one c.in_ok-end_object.ensures)))) in
    (part.0, c.written_text.ensures ∙ ap print (all.tokens ∙ ap (λ ts. ts ++ (front ++ rest)) c.new-writer.ensures.tokens))
