use Rattle.row_formats.proofs.Shared.{codes, Adds-one, names_of, apart_data, common_data}
use Rattle.row_formats.proofs.Items.{closed_evidence}
use Rattle.row_formats.proofs.row_json.write_evidence.Goals as goal

pub returns-in_ok-write_interval-in-Common : goal.returns-in_ok-write_interval-in-Common
returns-in_ok-write_interval-in-Common c =
    rw c.in-Common.is (closed_evidence c.end_object.result (codes "common") (common_data c.in-Common.common) (Adds-one c.in_ok-key-in-Common.ensures) (Adds-one c.in_ok-begin_object-in-Common.ensures) (Adds-one c.in_ok-key-in-Common-2.ensures) c.in_ok-write_interval-in-Common.ensures c.end_object.ensures)

pub returns-in_ok-write_pair-in-Apart : goal.returns-in_ok-write_pair-in-Apart
returns-in_ok-write_pair-in-Apart c =
    let name = names_of c.args.judged.now in
    rw c.in-Apart.is (closed_evidence c.end_object-in-Apart.result (codes "apart") (apart_data (name c.in-Apart.first) (name c.in-Apart.second)) (Adds-one c.in_ok-key-in-Apart.ensures) (Adds-one c.in_ok-begin_object-in-Apart.ensures) (Adds-one c.in_ok-key-in-Apart-2.ensures) c.in_ok-write_pair-in-Apart.ensures c.end_object-in-Apart.ensures)
