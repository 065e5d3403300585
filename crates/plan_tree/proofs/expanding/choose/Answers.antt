use Rattle.std.proofs.Common.{◌≡◌, ℕ, List, Some, ap, sym, ◌∙◌}
use Rattle.std.specs.List.{find}
use Rattle.slab.specs.Slab.{get}
use Rattle.plan_tree.specs.declared.expanding.Site.{Site}
use Rattle.plan_tree.specs.Expanded.{is_open}
use Rattle.spec_plan.specs.Expansion.{untried}
use Rattle.plan_tree.specs.Growth.{fallback_children}
use Rattle.plan_tree.proofs.Expansions.{next_is, site_stood, stood_condition}
use Rattle.plan_tree.proofs.Searched.{none_first}
use Rattle.plan_tree.proofs.expanding.choose.Goals as goal

pub returns-in_default : goal.returns-in_default
returns-in_default c = λ world tree st is.
    let at = stood_condition world c.args.t.now tree st c.args.key is.0 is.1 in
    absurd (cc (c.in_default.is, c.site_of.ensures, site_stood c.args.t.now.nodes tree c.args.key is.0 at))

pub returns-in_default-next_template : goal.returns-in_default-next_template
returns-in_default-next_template c = λ world tree st is.
    let t = c.args.t.now in
    let at = stood_condition world t tree st c.args.key is.0 is.1 in
    let site_is : c.in-Some.site ≡ record { row = is.0; parent = at.a.key } = cc (c.in-Some.is, c.site_of.ensures, site_stood t.nodes tree c.args.key is.0 at) in
    let tried_is : c.fallback_children-tried.result.now ≡ fallback_children at.a.part at.children =
    c.fallback_children-tried.ensures at.keeps_a.node (ap (λ (site : Site). get t.nodes site.parent) site_is ∙ at.keeps_a.there)
    ∙ ap (λ part. fallback_children part at.keeps_a.node.children.items) at.keeps_a.part_is ∙ ap (λ (ks : List ℕ). fallback_children at.a.part ks) at.keeps_a.children_are in
    none_first (untried world.rows c.args.key tree)
    (sym (next_is world t tree st c.args.key is.0 is.1 at) ∙ ap (λ (ks : List ℕ). find (is_open t is.0 ks) t.templates) (sym tried_is)
    ∙ ap (λ (site : Site). find (is_open t site.row c.fallback_children-tried.result.now) t.templates) (sym site_is) ∙ sym (c.next_template.ensures world tree st) ∙ c.in_default-next_template.is)

pub returns : goal.returns
returns c = λ world tree st is.
    let t = c.args.t.now in
    let at = stood_condition world t tree st c.args.key is.0 is.1 in
    let site_is : c.in-Some.site ≡ record { row = is.0; parent = at.a.key } = cc (c.in-Some.is, c.site_of.ensures, site_stood t.nodes tree c.args.key is.0 at) in
    let tried_is : c.fallback_children-tried.result.now ≡ fallback_children at.a.part at.children =
    c.fallback_children-tried.ensures at.keeps_a.node (ap (λ (site : Site). get t.nodes site.parent) site_is ∙ at.keeps_a.there)
    ∙ ap (λ part. fallback_children part at.keeps_a.node.children.items) at.keeps_a.part_is ∙ ap (λ (ks : List ℕ). fallback_children at.a.part ks) at.keeps_a.children_are in
    record {
      first = sym (next_is world t tree st c.args.key is.0 is.1 at) ∙ ap (λ (ks : List ℕ). find (is_open t is.0 ks) t.templates) (sym tried_is)
          ∙ ap (λ (site : Site). find (is_open t site.row c.fallback_children-tried.result.now) t.templates) (sym site_is) ∙ sym (c.next_template.ensures world tree st) ∙ c.in-Some-next_template.is;
      node = at.keeps.node;
      there = at.keeps.there;
      parent_is = at.keeps.parent_is ∙ ap (λ (site : Site). Some site.parent) (sym site_is);
    }
