-- The names that proofs of the crates above cite, passed on from one place. Declares nothing.
pub use Rattle.crs_normal.specs.Normal.{Ascends, Below, IsIn, IsNormalText}
pub use Rattle.crs_normal.specs.AxisAlone.{IsNormalAxis, IsSpelledAxis}
pub use Rattle.crs_normal.specs.CanonicalForm.{IsCanonicalForm}
pub use Rattle.crs_normal.specs.Closed.{IsClosed}
pub use Rattle.crs_normal.specs.inner.SpelledItems.{StaysInOrder, in_order, put, put_all, code_item, each, is_short, node_from, node_of, number_item, number_node, opt, text_item, text_node, word_item, item_ident, item_unit, norm_length, norm_unit, norm_units, whole_value, item_box, item_extent, item_usage, norm_extent, norm_tail, norm_usage, tail_items}
pub use Rattle.crs_normal.specs.PartSpellings.{IsSpelledParameter, IsSpelledUnit, IsSpelledUsage, unit_class, IsSpelledAs}
pub use Rattle.crs_normal.specs.inner.PartTexts.{axis_meridian_text, axis_text, base_text, compound_text, conversion_text, dynamic_text, ellipsoid_text, ensemble_text, extent_text, geoid_model_text, member_text, method_text, norm_axis_alone, parameter_text, projected_text, unit_text, usage_text, vertical_text}
pub use Rattle.crs_normal.specs.inner.SpelledCrs.{item_conversion, item_geoid_model, item_method, item_parameter, norm_conversion, norm_geoid_model, norm_method, norm_parameter, item_base, item_crs, item_horizontal, item_vertical, norm_base, norm_compound, norm_crs, norm_geodetic, norm_horizontal, norm_projected, norm_vertical, item_dynamic, norm_dynamic, axes_from, axis_at, is_at, is_number, item_axis, item_axis_meridian, item_head, norm_axis_meridians, norm_system, system_items, with_axis}
unfoldable pub use Rattle.crs_normal.specs.inner.SpelledCrs.{set_geoid_models, set_parameters, norm_axis}
pub use Rattle.crs_normal.specs.inner.SpelledFrames.{greenwich, is_zero, item_datum, item_ellipsoid, item_ensemble, item_frame, item_member, norm_datum, norm_ellipsoid, norm_ensemble, norm_frame, norm_given, norm_member, norm_meridian}
unfoldable pub use Rattle.crs_normal.specs.inner.SpelledFrames.{set_members}
unfoldable pub use Rattle.crs_normal.specs.inner.SpelledItems.{set_idents, set_usages}
pub use Rattle.crs_normal.specs.inner.WrittenForm.{IsWrittenForm}
