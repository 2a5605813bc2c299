-- The place found is the least that is held with the key: the search passes only places that are not, and stops at the first that is.
use Rattle.std.proofs.Common.{ℕ, ◌≡◌, ◌<◌, ◌≤◌, true, false, Option, Some, None, MatchOption, sym, arith, rules}
use Rattle.std.proofs.lemmas.Iterator.{first_from_Range}
use Rattle.occupancy.specs.Places.{places, Finds}
use Rattle.occupancy.proofs.LeastLaws.{least_is}
use Rattle.station.specs.Units.{holds, place_of}
use Rattle.station.specs.declared.Station.{Station}
use Rattle.station.proofs.Station.place_of.Goals as goal

-- the first place that is held with the key is the key's; with none it has none
first_held : (s : Station) (key : ℕ) (found : Option ℕ)
    → MatchOption found
    ((k : ℕ) → 0 ≤ k → k < places → holds s key k ≡ false)
    (λ i. (0 ≤ i) × (i < places) × (holds s key i ≡ true) × ((k : ℕ) → 0 ≤ k → k < i → holds s key k ≡ false))
    → Finds found (place_of s key)
unfolding place_of
first_held s key None none = least_is (holds s key) places places (omega arith) (λ k l. none k (omega arith) l) (λ l. absurd (omega arith))
first_held s key (Some i) (low, within, here, passed) =
    (sym (least_is (holds s key) places i (omega arith) (λ k l. passed k (omega arith) l) (λ _. here)), within)

pub returns : goal.returns
returns c =
    let s = c.args.self.now in
    let key = c.args.key in
    first_held s key c.find.result
    (first_from_Range _ _ _ _ (λ i. holds s key i ≡ true) (λ i. holds s key i ≡ false) c.find.ensures.ran
    (λ x q at. search rules)
    (λ x q at. search rules))
