use Rattle.oim_report.proofs.Shared.{◌≡◌, Some, ap, sym, subst, ◌∙◌, arith, depth, object, no_members, put, of_json, seen, seen_dimensions, seen_parts, IsSoFar}
use Rattle.json.specs.Json as j
use Rattle.oim_report.proofs.MembersPut.{value_put, decimals_put, dimensions_put, extension_put, links_put}
use Rattle.oim_report.proofs.fact.fact_members.FactMembers.put.Goals as goal

pub returns-in_ok-self-in-value : goal.returns-in_ok-self-in-value
returns-in_ok-self-in-value c = λ v begins.
    let leaf = c.in_ok-self-in-value.ensures v begins in
    let low = leaf.flat in
    let old = seen_parts c.args.self.now in
    let g = seen c.in_ok-self-in-value.field-0 in
    record { found = leaf.found; reads = leaf.reads; flat = omega (arith, low); puts = λ ms rises h. subst (λ k. IsSoFar (put k leaf.found ms) (record old { value = g })) (sym c.in-value.is) (value_put leaf.found g ms old leaf.is h) }

pub returns-in_ok-self-in-decimals : goal.returns-in_ok-self-in-decimals
returns-in_ok-self-in-decimals c = λ v begins.
    let leaf = c.in_ok-self-in-decimals.ensures v begins in
    let low = leaf.flat in
    let old = seen_parts c.args.self.now in
    let g = seen c.in_ok-self-in-decimals.field-0 in
    record { found = leaf.found; reads = leaf.reads; flat = omega (arith, low); puts = λ ms rises h. subst (λ k. IsSoFar (put k leaf.found ms) (record old { decimals = g })) (sym c.in-decimals.is) (decimals_put leaf.found g ms old leaf.is h) }

pub returns-in_ok-of_element-in-dimensions : goal.returns-in_ok-of_element-in-dimensions
returns-in_ok-of_element-in-dimensions c = λ v begins.
    let ds = c.in_ok-of_element-in-dimensions.ensures v begins in
    let low = ds.flat in
    let old = seen_parts c.args.self.now in
    let parts = seen_dimensions c.in_ok-of_element-in-dimensions.field-0 in
    record {
      found = object ds.ms;
      reads = ds.reads;
      flat = omega (arith, low);
      puts = λ ms rises h. subst (λ k. IsSoFar (put k (object ds.ms) ms) (record old { dimensions = Some parts })) (sym c.in-dimensions.is) (dimensions_put ds.ms parts ms old ds.are h);
    }

pub returns-in_ok-skip_value-in_default : goal.returns-in_ok-skip_value-in_default
returns-in_ok-skip_value-in_default c = λ v begins.
    let read = c.in_ok-skip_value-in_default.ensures v begins in
    record { found = read.found; reads = read.reads; flat = read.flat; puts = λ ms rises h. extension_put c.args.key.now read.found ms (seen_parts c.args.self.now) (sym c.has_colon.ensures ∙ c.if-has_colon.true) h }

pub returns-in-links : goal.returns-in-links
returns-in-links c = λ v begins.
    let is : v ≡ j.object j.no_members = c.is_empty_object.ensures v begins c.if-is_empty_object.true in
    record {
      found = object no_members;
      reads = ap of_json is;
      flat = omega (arith, ap depth is);
      puts = λ ms rises h. subst (λ k. IsSoFar (put k (object no_members) ms) (seen_parts c.args.self.now)) (sym c.in-links.is) (links_put ms (seen_parts c.args.self.now) h);
    }
