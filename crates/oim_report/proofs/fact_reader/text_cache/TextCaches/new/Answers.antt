use Rattle.oim_report.proofs.Shared.{Expands, ExpandsEntity, TextSaysLanguage, TextSaysPeriod, TextSaysUnit}
use Rattle.oim_report.proofs.TextCacheAdds.{none_wrong}
use Rattle.oim_report.proofs.fact_reader.text_cache.TextCaches.new.Goals as goal

pub returns : goal.returns
returns c = λ sheet bs. record {
  concepts = c.new.ensures sheet.concepts bs;
  dimensions = c.new-2.ensures sheet.dimensions bs;
  entities = none_wrong (ExpandsEntity bs) c.new-3.result c.new-3.ensures;
  periods = none_wrong TextSaysPeriod c.new-4.result c.new-4.ensures;
  units = none_wrong (TextSaysUnit bs) c.new-5.result c.new-5.ensures;
  languages = none_wrong TextSaysLanguage c.new-6.result c.new-6.ensures;
  members = none_wrong (Expands bs) c.new-7.result c.new-7.ensures;
}
