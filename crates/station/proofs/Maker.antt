-- The makers' answer and station in plain numbers, by the six tests of the settings; and that a key is its four numbers, by arithmetic.
-- Assumes nothing.
use Prim.Native.Nat.{ℕ}
use mathlib.Core.Path.{◌≡◌, refl}
use mathlib.Core.Bool.{Bool, true, false, cond, ◌||◌}
use mathlib.Core.Logic.{inl, inr}
use lib.Dec.{ltb}
use borrow.Author.Tests.{ltb-true, ltb-false}
use native.Mathlib.Omega.{arith}
use Rattle.pdu.specs.declared.Header.{Header}
use Rattle.station.specs.Answers.{made_number}
use Rattle.station.specs.Numbers.{last_level, last_net, fewest_exchanges, most_exchanges, shortest_limit, longest_limit}
use Rattle.station.specs.Units.{fresh, settings_of, least_settings, refusing, making, made}
use Rattle.station.specs.Claims.{Fresh, MakerTable, refused, taken, MadeByRules, UsualByRules, TwoBytes, SameKey}
use Rattle.station.specs.declared.Settings.{Settings}
use Rattle.station.specs.declared.Made.{Made}
use Rattle.station.proofs.HeardFirst.{nobody}

is_fresh : (given : Settings) → Fresh given.level given.net given.exchanges given.limit (fresh given)
unfolding fresh
is_fresh given = record {
  level = refl;
  net = refl;
  exchanges = refl;
  limit = refl;
  count = refl;
  id = refl;
  state = refl;
  clock = refl;
  sized = refl;
  empty = nobody (fresh given) refl;
}

pub made_by_rules : (level net exchanges limit : ℕ) → MadeByRules level net exchanges limit
unfolding made
made_by_rules level net exchanges limit =
    go (ltb last_level level) (ltb last_net net) (ltb exchanges fewest_exchanges) (ltb most_exchanges exchanges) (ltb limit shortest_limit)
    (ltb longest_limit limit)
    refl refl refl refl refl refl
  where
    given : Settings
    given = settings_of level net exchanges limit

    -- what the maker gives, by whether the settings are refused
    gives : Bool → Made
    gives b = cond b refusing (making given)

    wrong : Bool → Bool → Bool → Bool → Bool → Bool → Bool
    wrong a b c d e f = a || b || (c || d) || (e || f)

    go : (a b c d e f : Bool)
        → ltb last_level level ≡ a
        → ltb last_net net ≡ b
        → ltb exchanges fewest_exchanges ≡ c
        → ltb most_exchanges exchanges ≡ d
        → ltb limit shortest_limit ≡ e
        → ltb longest_limit limit ≡ f
        → MakerTable level net exchanges limit (made_number (gives (wrong a b c d e f)).answer) (gives (wrong a b c d e f)).station
    go true b c d e f p q r s t u = refused (inl (ltb-true _ _ p)) (is_fresh least_settings)
    go false true c d e f p q r s t u = refused (inr (inl (ltb-true _ _ q))) (is_fresh least_settings)
    go false false true d e f p q r s t u = refused (inr (inr (inl (ltb-true _ _ r)))) (is_fresh least_settings)
    go false false false true e f p q r s t u = refused (inr (inr (inr (inl (ltb-true _ _ s))))) (is_fresh least_settings)
    go false false false false true f p q r s t u = refused (inr (inr (inr (inr (inl (ltb-true _ _ t)))))) (is_fresh least_settings)
    go false false false false false true p q r s t u = refused (inr (inr (inr (inr (inr (ltb-true _ _ u)))))) (is_fresh least_settings)
    go false false false false false false p q r s t u =
        taken (ltb-false _ _ p) (ltb-false _ _ q) (ltb-false _ _ r) (ltb-false _ _ s) (ltb-false _ _ t) (ltb-false _ _ u) (is_fresh given)

pub usual_by_rules : (level net exchanges : ℕ) → UsualByRules level net exchanges
usual_by_rules level net exchanges = made_by_rules level net exchanges 96

pub same_key : (h h' : Header) → TwoBytes h → TwoBytes h' → SameKey h h'
same_key h h' fits fits' = record {
  same = λ s a e r. omega arith;
  site = λ k. omega arith;
  application = λ k. omega arith;
  entity = λ k. omega arith;
  radio = λ k. omega arith;
}
