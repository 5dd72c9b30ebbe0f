use Rattle.xbrlmerge_c.proofs.check_all.xbrlmerge_check_all.Goals as goal

pub returns-in-Ok-results_of-clause-done : goal.returns-in-Ok-results_of-clause-done
returns-in-Ok-results_of-clause-done c = λ is. record {
  results = c.in-Ok-results_of.found.items;
  are = record {
    listed = c.in-Ok.sheet;
    read = c.in-Ok.ensures.ok;
    holds = rw (← c.new-reports.ensures.bytes, ← c.new-reports.ensures.ends) c.in-Ok-results_of.ensures.are;
  };
  put = rw (← c.as_slice.ensures.value) c.put_results.ensures.put;
  status_is = rw (← c.as_slice.ensures.value) c.put_results.ensures.status;
}
