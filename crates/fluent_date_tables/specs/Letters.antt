-- Written by tools/dates from Unicode CLDR 48. Do not edit.
-- The lists of tags, each with the letter that its tags begin with.
use Rattle.std.specs.Prelude.{ℕ, List, [], ◌∷◌}
use Rattle.fluent_date_tables.specs.Tables.{Tagged}
use Rattle.fluent_date_tables.specs.Tags.{tags_a, tags_b, tags_c, tags_d, tags_e, tags_f, tags_g, tags_h, tags_i, tags_j, tags_k, tags_l, tags_m, tags_n, tags_o, tags_p, tags_q, tags_r, tags_s, tags_t, tags_u, tags_v, tags_w, tags_x, tags_y, tags_z}

abbrev pub lettered : List (ℕ × List Tagged)
lettered =
    (97, tags_a) ∷ (98, tags_b) ∷ (99, tags_c) ∷ (100, tags_d) ∷ (101, tags_e) ∷ (102, tags_f) ∷ (103, tags_g) ∷
    (104, tags_h) ∷ (105, tags_i) ∷ (106, tags_j) ∷ (107, tags_k) ∷ (108, tags_l) ∷ (109, tags_m) ∷ (110, tags_n) ∷
    (111, tags_o) ∷ (112, tags_p) ∷ (113, tags_q) ∷ (114, tags_r) ∷ (115, tags_s) ∷ (116, tags_t) ∷ (117, tags_u) ∷
    (118, tags_v) ∷ (119, tags_w) ∷ (120, tags_x) ∷ (121, tags_y) ∷ (122, tags_z) ∷
    []
