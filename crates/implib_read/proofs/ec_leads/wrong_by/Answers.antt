use Rattle.std.proofs.Common.{◌≡◌, ◌∙◌, List, ap, map, subst}
use Rattle.std.proofs.Math.Path.{fun_ext}
use Rattle.std.specs.Result.{IfOk}
use Rattle.implib_read.specs.ArchiveViews.{member_view}
use Rattle.implib_read.specs.Indexes.{IndexEntry}
use Rattle.implib_read.specs.IndexViews.{index_entry_view}
use Rattle.implib_read.specs.Leads.{ec_declarer, first_declarer, wrong_entries}
use Rattle.implib_read.specs.LeadViews.{offset_of}
use Rattle.implib_read.proofs.ec_leads.wrong_by.Goals as goal

pub returns : goal.returns
returns c =
    let entries = map index_entry_view c.args.entries.now in
    let first : offset_of c.in_ok-tables.tables ≡ first_declarer (map member_view c.args.arm64.now) = fun_ext c.in_ok-tables.ensures in
    let second : offset_of c.in_ok-others.others ≡ first_declarer (map member_view c.args.rest.now) = fun_ext c.in_ok-others.ensures in
    let P : List IndexEntry → Type 0 = λ wrong. IfOk c.wrong_among.result (λ v. map index_entry_view v.items ≡ wrong) in
    subst P
    (ap (λ d. wrong_entries (ec_declarer d (offset_of c.in_ok-others.others)) entries) first
    ∙ ap (λ d. wrong_entries (ec_declarer (first_declarer (map member_view c.args.arm64.now)) d) entries) second)
    c.wrong_among.ensures
