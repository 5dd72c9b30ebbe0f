-- Bases and the documents that they took (own).
use Rattle.std.specs.Prelude.{List}
use Rattle.oim_report.specs.Document.{Document}
use Rattle.oim_report.specs.Sheet.{Sheet}
use Rattle.fact_base.specs.Body.{body}
use Rattle.fact_base.specs.Contents.{Contents}

abbrev pub base_of : Sheet → List Document → Contents
base_of sheet docs = record { sheet = sheet; body = body docs }
