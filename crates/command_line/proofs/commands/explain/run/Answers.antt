use Rattle.std.proofs.Common.{◌∙◌, Err, None, Ok, inl, inr, length, subst, sym}
use Rattle.command_line.specs.Endings.{Prints, PutsText}
use Rattle.command_line.specs.Explained.{counts_line}
use Rattle.command_line.specs.Page.{EachEnds, EndsWith}
use Rattle.command_line.specs.Words.{explain, name_texts, under}
use Rattle.command_line.specs.declared.error.Error.TheVariants.{OutOfMemory}
use Rattle.command_line.proofs.Ends.{failed_first, of_error}
use Rattle.command_line.proofs.Explained.{each_stops, line_stops, whole}
use Rattle.command_line.proofs.commands.explain.run.Goals as goal

pub returns-in_err-counts-clause-ends : goal.returns-in_err-counts-clause-ends
returns-in_err-counts-clause-ends g c =
    let inputs = c.args.inputs.now in
    let gives = g.F.Folder.gives inputs.files.now in
    let fails = g.F.Folder.fails inputs.files.now in
    let names = inputs.names.now in
    let format = c.args.format in
    let name = c.args.name in
    let old = g.S.Sink.told c.args.out.now.sink in
    let new = g.S.Sink.told c.put_each.new.out.sink in
    let e = c.in_err-counts.field-0.0 in
    let file = c.in_ok-file.file in
    let sheet = c.in_ok-sheet.sheet in
    let of_sheet = c.in_ok-repeated.repeated in
    let later = c.read.new.self in
    let of_sheets = subst (λ s. Prints (EachEnds (g.F.Folder.gives later.files.now) format s of_sheet (g.F.Folder.fails later.files.now) (name_texts later.names.now)) old new (Err e)) c.in_ok-names.ensures c.in_err-counts.ensures.ends in
    let of_files = subst (λ files. Prints (EachEnds (g.F.Folder.gives files.now) format sheet of_sheet (g.F.Folder.fails files.now) (name_texts later.names.now)) old new (Err e)) c.read.ensures.files of_sheets in
    let ends = subst (λ ns. Prints (EachEnds gives format sheet of_sheet fails (name_texts ns.now)) old new (Err e)) c.read.ensures.names of_files in
    of_error (Prints (EndsWith gives fails inputs.bundle.now (name_texts names) None (under name.now (explain format))) old new) c.from_residual-in_err-counts.result e c.from_residual-in_err-counts.ensures.1
    (each_stops gives format sheet of_sheet fails names inputs.bundle.now name c.as_bytes-bytes.result.now (subst (gives name.now) (sym c.as_bytes-bytes.ensures) c.in_ok-file.ensures.ok) c.in_ok-sheet.ensures.ok c.in_ok-repeated.ensures old new e ends)

pub returns-in_err-put_counts-clause-ends : goal.returns-in_err-put_counts-clause-ends
returns-in_err-put_counts-clause-ends g c =
    let inputs = c.args.inputs.now in
    let gives = g.F.Folder.gives inputs.files.now in
    let fails = g.F.Folder.fails inputs.files.now in
    let names = inputs.names.now in
    let format = c.args.format in
    let name = c.args.name in
    let old = g.S.Sink.told c.args.out.now.sink in
    let mid = g.S.Sink.told c.put_each.new.out.sink in
    let new = g.S.Sink.told c.put_counts.new.out.sink in
    let e = c.in_err-put_counts.field-0.0 in
    let counts = c.in_ok-counts.counts in
    let sheet = c.in_ok-sheet.sheet in
    let of_sheet = c.in_ok-repeated.repeated in
    let later = c.read.new.self in
    let of_sheets = subst (λ s. Prints (EachEnds (g.F.Folder.gives later.files.now) format s of_sheet (g.F.Folder.fails later.files.now) (name_texts later.names.now)) old mid (Ok counts)) c.in_ok-names.ensures c.in_ok-counts.ensures.ends in
    let of_files = subst (λ files. Prints (EachEnds (g.F.Folder.gives files.now) format sheet of_sheet (g.F.Folder.fails files.now) (name_texts later.names.now)) old mid (Ok counts)) c.read.ensures.files of_sheets in
    let ends = subst (λ ns. Prints (EachEnds gives format sheet of_sheet fails (name_texts ns.now)) old mid (Ok counts)) c.read.ensures.names of_files in
    let put = subst (λ ns. Prints (PutsText (counts_line format (length ns.now) counts.faulty counts.faults)) mid new (Err e)) (c.put_each.ensures.names ∙ c.read.ensures.names) c.in_err-put_counts.ensures in
    of_error (Prints (EndsWith gives fails inputs.bundle.now (name_texts names) None (under name.now (explain format))) old new) c.from_residual-in_err-put_counts.result e c.from_residual-in_err-put_counts.ensures.1
    (line_stops gives format sheet of_sheet fails names inputs.bundle.now name c.as_bytes-bytes.result.now (subst (gives name.now) (sym c.as_bytes-bytes.ensures) c.in_ok-file.ensures.ok) c.in_ok-sheet.ensures.ok c.in_ok-repeated.ensures old mid new counts ends e put)

pub returns-clause-ends : goal.returns-clause-ends
returns-clause-ends g c =
    let inputs = c.args.inputs.now in
    let gives = g.F.Folder.gives inputs.files.now in
    let fails = g.F.Folder.fails inputs.files.now in
    let names = inputs.names.now in
    let format = c.args.format in
    let name = c.args.name in
    let old = g.S.Sink.told c.args.out.now.sink in
    let mid = g.S.Sink.told c.put_each.new.out.sink in
    let new = g.S.Sink.told c.put_counts.new.out.sink in
    let done = c.in_ok-put_counts.field-0 in
    let counts = c.in_ok-counts.counts in
    let sheet = c.in_ok-sheet.sheet in
    let of_sheet = c.in_ok-repeated.repeated in
    let later = c.read.new.self in
    let of_sheets = subst (λ s. Prints (EachEnds (g.F.Folder.gives later.files.now) format s of_sheet (g.F.Folder.fails later.files.now) (name_texts later.names.now)) old mid (Ok counts)) c.in_ok-names.ensures c.in_ok-counts.ensures.ends in
    let of_files = subst (λ files. Prints (EachEnds (g.F.Folder.gives files.now) format sheet of_sheet (g.F.Folder.fails files.now) (name_texts later.names.now)) old mid (Ok counts)) c.read.ensures.files of_sheets in
    let ends = subst (λ ns. Prints (EachEnds gives format sheet of_sheet fails (name_texts ns.now)) old mid (Ok counts)) c.read.ensures.names of_files in
    let put = subst (λ ns. Prints (PutsText (counts_line format (length ns.now) counts.faulty counts.faults)) mid new (Ok done)) (c.put_each.ensures.names ∙ c.read.ensures.names) c.in_ok-put_counts.ensures in
    whole gives format sheet of_sheet fails names inputs.bundle.now name c.as_bytes-bytes.result.now (subst (gives name.now) (sym c.as_bytes-bytes.ensures) c.in_ok-file.ensures.ok) c.in_ok-sheet.ensures.ok c.in_ok-repeated.ensures old mid new counts ends done put

pub returns-in_err-file-clause-ends : goal.returns-in_err-file-clause-ends
returns-in_err-file-clause-ends g c = failed_first c.from_residual.result c.in_err-file.field-0.0 c.from_residual.ensures.1 (inr (inl (inl c.in_err-file.ensures.why)))

pub returns-in_err-sheet-clause-ends : goal.returns-in_err-sheet-clause-ends
returns-in_err-sheet-clause-ends g c =
    failed_first c.from_residual-in_err-sheet.result c.in_err-sheet.field-0.0 c.from_residual-in_err-sheet.ensures.1
    (inr (inl (inr (c.as_bytes-bytes.result.now, subst (g.F.Folder.gives c.args.inputs.now.files.now c.args.name.now) (sym c.as_bytes-bytes.ensures) c.in_ok-file.ensures.ok, c.in_err-sheet.ensures.why))))

pub returns-in_err-repeated-clause-ends : goal.returns-in_err-repeated-clause-ends
returns-in_err-repeated-clause-ends g c = failed_first c.from_residual-in_err-repeated.result OutOfMemory c.from_residual-in_err-repeated.ensures.1 (inl tt)

pub returns-in_err-names-clause-ends : goal.returns-in_err-names-clause-ends
returns-in_err-names-clause-ends g c = failed_first c.from_residual-in_err-names.result OutOfMemory c.from_residual-in_err-names.ensures.1 (inl tt)
