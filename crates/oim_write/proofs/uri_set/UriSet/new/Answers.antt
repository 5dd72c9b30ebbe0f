use Rattle.oim_write.proofs.Shared.{ap, ◌∙◌, text_cmp, set_of}
use Rattle.oim_write.proofs.UriSets.{none_in_set}
use Rattle.oim_write.proofs.uri_set.UriSet.new.Goals as goal

pub returns : goal.returns
returns c = ap (set_of text_cmp) c.new.ensures.items ∙ none_in_set
