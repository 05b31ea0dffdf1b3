-- Codes that are gathered from values, and those that are left out.
use Rattle.std.proofs.Common.{◌≡◌, ℕ, ◌+◌, ◌<◌, ◌++◌, List, [], ◌∷◌, Bor, true, false, add-one, append_assoc, drop, drop-cons, suc, get_or, length}
use Rattle.std.specs.List.{flat_map}
use Rattle.clap.specs.Words.{Text}
use Rattle.ftl_arguments.specs.Linting.{code_list, is_among, others_of}
use Rattle.ftl_arguments.specs.Meaning.{texts}

pub gathered : (found : List Text) (values : List (Bor Text)) (i : ℕ) (d : Bor Text) → i < length values
    → (found ++ code_list (get_or values i d).now) ++ flat_map code_list (texts (drop (i + 1) values)) ≡ found ++ flat_map code_list (texts (drop i values))
gathered found values i d within =
    rw (add-one, drop-cons values i d within) (append_assoc found (code_list (get_or values i d).now) (flat_map code_list (texts (drop (suc i) values))))

pub left_out : (found selected : List Text) (codes : List (Bor Text)) (i : ℕ) (d : Bor Text) → i < length codes → is_among selected (get_or codes i d).now ≡ false
    → (found ++ (get_or codes i d).now ∷ []) ++ others_of selected (texts (drop (i + 1) codes)) ≡ found ++ others_of selected (texts (drop i codes))
left_out found selected codes i d within is =
    rw (add-one, drop-cons codes i d within, is) (append_assoc found ((get_or codes i d).now ∷ []) (others_of selected (texts (drop (suc i) codes))))

pub kept : (found selected : List Text) (codes : List (Bor Text)) (i : ℕ) (d : Bor Text) → i < length codes → is_among selected (get_or codes i d).now ≡ true
    → found ++ others_of selected (texts (drop (i + 1) codes)) ≡ found ++ others_of selected (texts (drop i codes))
kept found selected codes i d within is = rw (add-one, drop-cons codes i d within, is)
