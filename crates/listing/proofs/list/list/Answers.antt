-- `list::list` meets its contract: each answer of the search has its text. Assumes nothing.
use mathlib.Core.Path.{sym, ap, ap₂, ◌∙◌, subst}
use mathlib.Core.Bool.{true, false}
use Prim.Native.Nat.{ℕ, ◌≤◌}
use lib.ListN.{length}
use Rattle.pairs.specs.Pairs.{pair_count}
use Rattle.std.specs.Prelude.{Ok}
use Rattle.writing.specs.Listing.{refused_text, listing_text}
use Rattle.listing.proofs.Listed.{done_listable, paused_listable, listed_refused, listed_done, listed_paused, stands_as}
use Rattle.listing.proofs.list.list.Goals as goal

pub write_listing-requires : goal.write_listing-requires
write_listing-requires c =
    let q = c.search.ensures in
    let e = c.count.ensures.counted in
    let l = done_listable _ _ _ _ (sym q.outcome ∙ c.in-Ok-Done.is ∙ ap Ok c.in-Ok-Done.field-0-is) in
    record {
      n_bound = subst (λ (k : ℕ). k ≤ 128) (sym e) l.few;
      st_len = ap length q.status ∙ l.long ∙ ap pair_count (sym e);
      out_room = c.requires;
    }

pub write_listing-requires-in-Ok-Paused : goal.write_listing-requires-in-Ok-Paused
write_listing-requires-in-Ok-Paused c =
    let q = c.search.ensures in
    let e = c.count-in-Ok-Paused.ensures.counted in
    let l = paused_listable _ _ _ _ (sym q.outcome ∙ c.in-Ok-Paused.is ∙ ap Ok c.in-Ok-Paused.field-0-is) in
    record {
      n_bound = subst (λ (k : ℕ). k ≤ 128) (sym e) l.few;
      st_len = ap length q.status ∙ l.long ∙ ap pair_count (sym e);
      out_room = c.requires;
    }

pub returns-in-Err : goal.returns-in-Err
returns-in-Err c =
    let q = c.search.ensures in
    let h =
    stands_as c.args.out.now
    (ap₂ refused_text (c.from-in-Err.ensures ∙ c.number.ensures.number) c.detail.ensures.detail ∙
    listed_refused c.args.m.now c.args.st.now c.args.budget (sym q.outcome ∙ c.in-Err.is))
    (c.write_refusal.ensures.counted, c.write_refusal.ensures.written) in
    record { counted = h.0; written = h.1; status = q.status }

pub returns-in-Ok-Done : goal.returns-in-Ok-Done
returns-in-Ok-Done c =
    let q = c.search.ensures in
    let h =
    stands_as c.args.out.now
    (ap (λ (e : ℕ). listing_text true e c.search.new.st c.count.result) c.from.ensures ∙
    listed_done c.args.m.now c.args.st.now c.args.budget (sym q.outcome ∙ c.in-Ok-Done.is ∙ ap Ok c.in-Ok-Done.field-0-is) q.status c.count.ensures.counted)
    (c.write_listing.ensures.counted, c.write_listing.ensures.written) in
    record { counted = h.0; written = h.1; status = q.status }

pub returns-in-Ok-Paused : goal.returns-in-Ok-Paused
returns-in-Ok-Paused c =
    let q = c.search.ensures in
    let h =
    stands_as c.args.out.now
    (ap (λ (e : ℕ). listing_text false e c.search.new.st c.count-in-Ok-Paused.result) c.from-in-Ok-Paused.ensures ∙
    listed_paused c.args.m.now c.args.st.now c.args.budget (sym q.outcome ∙ c.in-Ok-Paused.is ∙ ap Ok c.in-Ok-Paused.field-0-is) q.status c.count-in-Ok-Paused.ensures.counted)
    (c.write_listing-in-Ok-Paused.ensures.counted, c.write_listing-in-Ok-Paused.ensures.written) in
    record { counted = h.0; written = h.1; status = q.status }
