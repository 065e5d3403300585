-- One item after the other, while the size is added up.
use Rattle.std.proofs.Common.{◌≡◌, ℕ, ◌+◌, ◌*◌, ◌^◌, ◌<◌, ◌≤◌, true, List, [], ◌∷◌, map, length, drop, get_or, sym, ◌∙◌, ap, subst, arith}
use Rattle.std.specs.List.{list_all}
use Rattle.std.proofs.lemmas.List.{drop_more}
use Rattle.spec_world_file.specs.Blocks.{Body, End, Forall, Item}
use Rattle.world_ground.specs.Seen.{seen_item}
use Rattle.world_ground.specs.Sizes.{Sizing, sized_item}
use Rattle.world_ground.specs.Sound.{FitsIn, Laid, is_small}
use Rattle.world_ground.specs.declared.items.Item as items
use Rattle.world_ground.specs.declared.sizes.Around.{Around}
use Rattle.spec_world_file.specs.declared.sort.Sort.{Sort}
use Rattle.world_ground.proofs.Bounds.{line_small}
use Rattle.world_ground.proofs.Totals.{sized_items}

laid_fits : (from : ℕ) (item : Item) (rest : List Item) (to : ℕ) → Laid from (item ∷ rest) to → FitsIn from item
laid_fits from (Body line) rest to h = h.0
laid_fits from (Forall x sort) rest to h = tt
laid_fits from End rest to h = tt

laid_end : (around : List Around) (rest : List Item) (to : ℕ) → Laid (length around) (End ∷ rest) to → Laid (length (drop 1 around)) rest to
laid_end [] rest to h = absurd h
laid_end (block ∷ around) rest to h = h

laid_next : (sorts : List Sort) (s : Sizing) (item : Item) (rest : List Item) (to : ℕ) → Laid (length s.around) (item ∷ rest) to → Laid (length (sized_item sorts s item).around) rest to
laid_next sorts s (Body line) rest to h = h.2
laid_next sorts s (Forall x sort) rest to h = h.1
laid_next sorts s End rest to h = laid_end s.around rest to h

size_next : (sorts : List Sort) (s : Sizing) (item : Item) → list_all is_small sorts ≡ true → FitsIn (length s.around) item → (sized_item sorts s item).size ≤ s.size + 2 ^ 39
size_next sorts s (Body line) small fits = let one = line_small sorts s.around line.text small fits.0 fits.1 in omega arith
size_next sorts s (Forall x sort) small fits = omega arith
size_next sorts s End small fits = omega arith

module _ (sorts : List Sort) (all : List items.Item) (i : ℕ) (d : items.Item) (s next : Sizing) (within : i < length all) (is : next ≡ sized_item sorts s (seen_item (get_or all i d))) where
  here : map seen_item (drop i all) ≡ seen_item (get_or all i d) ∷ map seen_item (drop (i + 1) all)
  here = ap (map seen_item) (drop_more all i d within)

  -- the rest is added to what there is after this item
  pub sized_on : (total : Sizing) → sized_items sorts s (map seen_item (drop i all)) ≡ total → sized_items sorts next (map seen_item (drop (i + 1) all)) ≡ total
  sized_on total h = ap (λ (n : Sizing). sized_items sorts n (map seen_item (drop (i + 1) all))) is ∙ sym (ap (sized_items sorts s) here) ∙ h

  item_laid : Laid (length s.around) (map seen_item (drop i all)) 0 → Laid (length s.around) (seen_item (get_or all i d) ∷ map seen_item (drop (i + 1) all)) 0
  item_laid h = subst (λ (rest : List Item). Laid (length s.around) rest 0) here h

  pub laid_on : Laid (length s.around) (map seen_item (drop i all)) 0 → Laid (length next.around) (map seen_item (drop (i + 1) all)) 0
  laid_on h = subst (λ (n : Sizing). Laid (length n.around) (map seen_item (drop (i + 1) all)) 0) (sym is) (laid_next sorts s (seen_item (get_or all i d)) (map seen_item (drop (i + 1) all)) 0 (item_laid h))

  pub small_on : list_all is_small sorts ≡ true → Laid (length s.around) (map seen_item (drop i all)) 0 → s.size ≤ 11 + 2 ^ 39 * i → next.size ≤ 11 + 2 ^ 39 * (i + 1)
  small_on small h before =
      let size = ap (λ (n : Sizing). n.size) is in
      let one = size_next sorts s (seen_item (get_or all i d)) small (laid_fits (length s.around) (seen_item (get_or all i d)) (map seen_item (drop (i + 1) all)) 0 (item_laid h)) in
      omega arith
