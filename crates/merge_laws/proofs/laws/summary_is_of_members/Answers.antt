use Rattle.merge_laws.proofs.Members.{summary_of_one, summary_of_both, summary_of_union, summary_of_members}
use Rattle.merge_laws.proofs.laws.summary_is_of_members.Goals as goal

pub returns : goal.returns
returns c = record { one = summary_of_one; both = summary_of_both; union = summary_of_union; members = summary_of_members }
